-- Lists in which each element is related to those after it.
use Rattle.std.proofs.Common.{◌≡◌, List, [], ◌∷◌, ◌++◌, ◌⊎◌, inl, inr, subst, Contains, arith}
use Rattle.std.specs.List.{All}
use Rattle.std.proofs.lemmas.List.Elements.{All-contains, All-contains_itself, All-weaker}
use Rattle.std.proofs.lemmas.List.Elements.{All-append, Contains-append_left}
use Rattle.std.proofs.lemmas.List.Elements.{Contains-append_right, Contains-append_cases}
use Rattle.std.proofs.lemmas.List.Elements.{Contains-push, Contains-push_cases}
use Rattle.scale_info_interner.specs.ElementOrders.{AreOrdered}

-- an empty list contains nothing
pub none_in : {X : Type 0} (x : X) → Contains [] x → ⊥
none_in x (k, within, _) = omega arith

-- an element of a list is its first or one of the others
pub head_or_tail : {X : Type 0} (y x : X) (ys : List X) → Contains (y ∷ ys) x → (y ≡ x) ⊎ Contains ys x
head_or_tail y x ys h = elim (Contains-append_cases (y ∷ []) ys x h) [
  | inl one ↦ elim (Contains-push_cases [] y x one) [
    | inl none ↦ absurd (none_in x none)
    | inr e ↦ inl e
  ]
  | inr more ↦ inr more
]

-- a list contains its first element
pub head_in : {X : Type 0} (x : X) (xs : List X) → Contains (x ∷ xs) x
head_in x xs = Contains-append_left (x ∷ []) xs x (Contains-push [] x)

-- a list contains what its tail contains
pub tail_in : {X : Type 0} (y x : X) (ys : List X) → Contains ys x → Contains (y ∷ ys) x
tail_in y x ys h = Contains-append_right (y ∷ []) ys x h

-- what holds of whatever a list contains
pub all_from_contained :
    {X : Type 0} (P : X → Type 0) (xs : List X) → ((x : X) → Contains xs x → P x) → All P xs
all_from_contained P xs f = All-weaker (Contains xs) P f xs (All-contains_itself xs)

-- what holds of each element holds of those on the left
pub all_left : {X : Type 0} (P : X → Type 0) (xs ys : List X) → All P (xs ++ ys) → All P xs
all_left P xs ys h =
    all_from_contained P xs (λ x p. All-contains P (xs ++ ys) x h (Contains-append_left xs ys x p))

-- and of those on the right
pub all_right : {X : Type 0} (P : X → Type 0) (xs ys : List X) → All P (xs ++ ys) → All P ys
all_right P xs ys h =
    all_from_contained P ys (λ y p. All-contains P (xs ++ ys) y h (Contains-append_right xs ys y p))

module _ {X : Type 0} (R : X → X → Type 0) where
  -- the left part of an ordered list is ordered
  pub ordered_left : (xs ys : List X) → AreOrdered R (xs ++ ys) → AreOrdered R xs
  ordered_left [] ys h = tt
  ordered_left (x ∷ xs) ys h = (all_left (R x) xs ys h.0, ordered_left xs ys h.1)

  -- so is the right part
  pub ordered_right : (xs ys : List X) → AreOrdered R (xs ++ ys) → AreOrdered R ys
  ordered_right [] ys h = h
  ordered_right (x ∷ xs) ys h = ordered_right xs ys h.1

  -- what stands on the left is related to what stands on the right
  pub ordered_across :
      (xs ys : List X) → AreOrdered R (xs ++ ys) → (x y : X) → Contains xs x → Contains ys y → R x y
  ordered_across [] ys h x y p q = absurd (none_in x p)
  ordered_across (z ∷ xs) ys h x y p q = elim (head_or_tail z x xs p) [
    | inl e ↦ subst (λ w. R w y) e
        (All-contains (R z) (xs ++ ys) y h.0 (Contains-append_right xs ys y q))
    | inr more ↦ ordered_across xs ys h.1 x y more q
  ]

  -- two ordered lists make one where the elements of the first are related to those of the second
  pub ordered_append :
      (xs ys : List X) → AreOrdered R xs → AreOrdered R ys
      → ((x y : X) → Contains xs x → Contains ys y → R x y)
      → AreOrdered R (xs ++ ys)
  ordered_append [] ys a b across = b
  ordered_append (x ∷ xs) ys a b across = (
    All-append (R x) xs ys a.0
        (all_from_contained (R x) ys (λ y q. across x y (head_in x xs) q)),
    ordered_append xs ys a.1 b (λ z y p q. across z y (tail_in x z xs p) q),
  )

-- a relation that follows from the other
pub ordered_weaker :
    {X : Type 0} (R S : X → X → Type 0) → (xs : List X)
    → ((x y : X) → Contains xs x → Contains xs y → R x y → S x y)
    → AreOrdered R xs
    → AreOrdered S xs
ordered_weaker R S [] f h = tt
ordered_weaker R S (x ∷ xs) f h = (
  all_from_contained (S x) xs (λ y q.
      f x y (head_in x xs) (tail_in x y xs q) (All-contains (R x) xs y h.0 q)),
  ordered_weaker R S xs (λ y z p q. f y z (tail_in x y xs p) (tail_in x z xs q)) h.1,
)
