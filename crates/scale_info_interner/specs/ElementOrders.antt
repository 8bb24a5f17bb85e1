-- Indices of elements in the elements' order, in chunks.
use Rattle.std.specs.Prelude.{◌≡◌, ◌≢◌, ◌<◌, ◌≤◌, ◌++◌, ℕ, zero, suc, List, [], ◌∷◌, Some, Contains}
use Rattle.std.specs.Prelude.{length, slice_get, take, drop}
use Rattle.std.specs.Bool.{⊤}
use Rattle.std.specs.List.{All, concat}
use Rattle.std.specs.Option.{option_map, unwrap_or}
use Rattle.std.specs.declared.cmp.Ordering.{Ordering}
use Rattle.std.specs.declared.cmp.Ordering.TheVariants.{Less, Equal, Greater}

-- how the element at index i compares with x; an index of no element stands above
abbrev pub against : {T : Type 0} → (T → T → Ordering) → List T → T → ℕ → Ordering
against cmp xs x i = unwrap_or (option_map (λ y. cmp y x) (slice_get xs i)) Greater

-- the element at index i is below the one at index j
abbrev pub IsBelow : {T : Type 0} → (T → T → Ordering) → List T → ℕ → ℕ → Type 0
IsBelow {T} cmp xs i j =
    (x y : T) × (slice_get xs i ≡ Some x) × (slice_get xs j ≡ Some y) × (cmp x y ≡ Less)

-- each element is related to those after it
abbrev pub AreOrdered : {X : Type 0} → (X → X → Type 0) → List X → Type 0
AreOrdered R [] = ⊤
AreOrdered R (x ∷ xs) = All (R x) xs × AreOrdered R xs

-- no chunk is empty, and together they have the index of each element, the lower element first
pub record IsElementOrder {T : Type 0} (cmp : T → T → Ordering) (xs : List T)
    (chunks : List (List ℕ)) : Type 0 where
  pub filled : All (λ c. c ≢ []) chunks
  pub ascending : AreOrdered (IsBelow cmp xs) (concat chunks)
  pub sound : All (λ i. i < length xs) (concat chunks)
  pub complete : (i : ℕ) → i < length xs → Contains (concat chunks) i

-- the indices before place `at` of chunk c
abbrev pub before : List (List ℕ) → ℕ → ℕ → List ℕ
before [] c at = []
before (chunk ∷ chunks) zero at = take at chunk
before (chunk ∷ chunks) (suc c) at = chunk ++ before chunks c at

-- the indices from place `at` of chunk c on
abbrev pub after : List (List ℕ) → ℕ → ℕ → List ℕ
after [] c at = []
after (chunk ∷ chunks) zero at = drop at chunk ++ concat chunks
after (chunk ∷ chunks) (suc c) at = after chunks c at

-- how the first index of a chunk compares with x; an empty chunk stands above
abbrev pub first_against : {T : Type 0} → (T → T → Ordering) → List T → T → List ℕ → Ordering
first_against cmp xs x chunk =
    unwrap_or (option_map (λ i. against cmp xs x i) (slice_get chunk 0)) Greater

-- the place is that of an index whose element is equal to x
pub record IsFoundAt {T : Type 0} (cmp : T → T → Ordering) (xs : List T) (chunks : List (List ℕ))
    (x : T) (c at : ℕ) : Type 0 where
  pub chunk : List ℕ
  pub index : ℕ
  pub there : slice_get chunks c ≡ Some chunk
  pub here : slice_get chunk at ≡ Some index
  pub equal : against cmp xs x index ≡ Equal

-- the elements before the place are less than x, and those from it on are greater
pub record IsGapFor {T : Type 0} (cmp : T → T → Ordering) (xs : List T) (chunks : List (List ℕ))
    (x : T) (c at : ℕ) : Type 0 where
  pub within : (chunk : List ℕ) → slice_get chunks c ≡ Some chunk → at ≤ length chunk
  pub less : All (λ i. against cmp xs x i ≡ Less) (before chunks c at)
  pub greater : All (λ i. against cmp xs x i ≡ Greater) (after chunks c at)
