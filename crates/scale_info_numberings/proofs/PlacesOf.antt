-- The places of several nodes in a list.
use Rattle.std.proofs.Common.{Contains, List, Some, [], inl, inr, length, refl, slice_get, subst, ℕ}
use Rattle.std.proofs.Common.{◌<◌, ◌∷◌, ◌≡◌}
use Rattle.std.proofs.lemmas.Option.{none-some, slice_get_within}
use Rattle.scale_info_numberings.proofs.Places.{contains_cases, contains_head, contains_tail}
use Rattle.scale_info_numberings.proofs.Places.{element_at, place_of}
use Rattle.scale_info_numberings.specs.Numberings.{AreDistinct}
use Rattle.scale_info_numberings.specs.Tables.{ArePlaces}

-- distinct nodes have one list of places
pub one_place :
    {N : Type 0} (L : List N)
    → AreDistinct L → (ns : List N) (ps qs : List ℕ) → ArePlaces L ns ps → ArePlaces L ns qs
    → ps ≡ qs
one_place L d [] [] [] z y = refl
one_place L d [] [] (q ∷ qs) z y = absurd y
one_place L d [] (p ∷ ps) qs z y = absurd z
one_place L d (n ∷ ns) [] qs z y = absurd z
one_place L d (n ∷ ns) (p ∷ ps) [] z y = absurd y
one_place L d (n ∷ ns) (p ∷ ps) (q ∷ qs) z y =
    let e : p ≡ q = d p q n z.0 y.0 in let r : ps ≡ qs = one_place L d ns ps qs z.1 y.1 in cc

-- nodes stand at the same places of a list that goes on
pub places_in_more :
    {N : Type 0} (L M : List N)
    → ((i : ℕ) (n : N) → slice_get L i ≡ Some n → slice_get M i ≡ Some n)
    → (ns : List N) (ps : List ℕ) → ArePlaces L ns ps → ArePlaces M ns ps
places_in_more L M f [] [] z = tt
places_in_more L M f [] (p ∷ ps) z = absurd z
places_in_more L M f (n ∷ ns) [] z = absurd z
places_in_more L M f (n ∷ ns) (p ∷ ps) z = (f p n z.0, places_in_more L M f ns ps z.1)

-- the places of nodes are below the length
pub places_below :
    {N : Type 0} (L : List N) (ns : List N) (ps : List ℕ)
    → ArePlaces L ns ps → (p : ℕ) → Contains ps p → p < length L
places_below L [] [] z p c = absurd (let k = place_of [] p c in none-some p k.1)
places_below L [] (q ∷ ps) z p c = absurd z
places_below L (n ∷ ns) [] z p c = absurd z
places_below L (n ∷ ns) (q ∷ ps) z p c =
    elim (contains_cases q ps p c) [
      | inl e ↦ subst (λ k. k < length L) e (slice_get_within L q n z.0)
      | inr k ↦ places_below L ns ps z.1 p k
    ]

-- what stands at the places
pub read_exists :
    {N : Type 0} (L : List N) (ps : List ℕ)
    → ((p : ℕ) → Contains ps p → p < length L) → (ns : List N) × ArePlaces L ns ps
read_exists L [] f = ([], tt)
read_exists L (p ∷ ps) f =
    let n = element_at L p (f p (contains_head p ps)) in
    let r = read_exists L ps (λ q c. f q (contains_tail p ps q c)) in
    (n.0 ∷ r.0, (n.1, r.1))
