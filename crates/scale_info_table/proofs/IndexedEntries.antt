-- Entries with their indices.
use Rattle.std.proofs.Common.{◌≡◌, ◌↔◌, ◌<◌, ℕ, zero, suc, List, [], ◌∷◌, Bool, true, false}
use Rattle.std.proofs.Common.{IsTrue, All, length, min, take, ap, refl, arith}
use Rattle.std.specs.Bool.{MatchBool}
use Rattle.std.proofs.lemmas.Bool.{false≢true}
use Rattle.std.specs.List.{AllWithin, HoldsAt}
use Rattle.std.proofs.lemmas.List.Elements.{All-from_all_within}
use Rattle.scale_info_types.specs.declared.ty.PortableType.{PortableType}
use Rattle.scale_info_table.specs.IndexedEntries.{indexed_from}
use Rattle.scale_info_table.proofs.Interned.{length_counted}

-- there are as many as entries
pub length_indexed :
    (index : ℕ) (entries : List PortableType)
    → length (indexed_from index entries) ≡ length entries
length_indexed = length_counted indexed_from (λ n. refl) (λ n entry entries. (_, refl))

-- a list of at most so many elements has no more to give
pub taken_within :
    {X : Type 0} (xs : List X) (n m : ℕ)
    → m ≡ min (length xs) n → take m xs ≡ take n xs
taken_within [] zero zero is_min = refl
taken_within [] zero (suc m) is_min = refl
taken_within [] (suc n) zero is_min = refl
taken_within [] (suc n) (suc m) is_min = refl
taken_within (x ∷ xs) zero zero is_min = refl
taken_within (x ∷ xs) zero (suc m) is_min = absurd (omega (arith, is_min))
taken_within (x ∷ xs) (suc n) zero is_min = absurd (omega (arith, is_min))
taken_within (x ∷ xs) (suc n) (suc m) is_min =
    ap (λ ys. x ∷ ys) (taken_within xs n m (omega (arith, is_min)))

-- where a run found that P holds of each element, or found an element with Q, which excludes P
pub decides_all :
    {X : Type 0} (P Q : X → Type 0)
    → ((x : X) → P x → Q x → ⊥) → (xs : List X) (answer : Bool)
    → MatchBool answer (AllWithin P xs 0 (length xs)) ((k : ℕ) × (k < length xs) × HoldsAt Q xs k)
    → IsTrue answer ↔ All P xs
decides_all P Q apart xs true found = (λ yes. All-from_all_within P xs found, λ all. refl)
decides_all P Q apart [] false found = absurd (omega (arith, found.1))
decides_all P Q apart (x ∷ xs) false found =
    (λ impossible. absurd (false≢true impossible), λ all. absurd (apart _ (all found.0 x found.1) (found.2 x)))
