-- Walks joined, split and carried to other lists.
use Rattle.std.proofs.Common.{Contains, List, Some, [], ap, arith, inl, inr, length, refl}
use Rattle.std.proofs.Common.{slice_get, subst, sym, ℕ, ◌++◌, ◌+◌, ◌<◌, ◌∙◌, ◌∷◌, ◌≡◌, ◌≤◌}
use Rattle.std.proofs.lemmas.Option.{none-some, slice_get_within}
use Rattle.std.specs.List.{AllZip}
use Rattle.scale_info_numberings.proofs.Places.{contains_cases, place_of}
use Rattle.scale_info_numberings.specs.Numberings.{AreDistinct, IsStep, Walks}
use Rattle.scale_info_numberings.specs.Systems.{Entry, System}
use Rattle.scale_info_numberings.specs.Tables.{ArePlaces}

module _ {N : Type 0} (L : List N) (ends : ℕ → ℕ) where
  -- one walk after another
  pub join_walks :
      (rs qs : List N) (a b c : ℕ)
      → Walks L ends rs a b → Walks L ends qs b c → Walks L ends (rs ++ qs) a c
  join_walks [] qs a b c w v = subst (λ z. Walks L ends qs z c) (sym w) v
  join_walks (r ∷ rs) qs a b c w v = (w.0, w.1, join_walks rs qs w.0 b c w.2 v)

  -- a walk of two lists stops between them
  pub split_walk :
      (rs qs : List N) (a c : ℕ)
      → Walks L ends (rs ++ qs) a c → (b : ℕ) × Walks L ends rs a b × Walks L ends qs b c
  split_walk [] qs a c w = (a, refl, w)
  split_walk (r ∷ rs) qs a c w = let s = split_walk rs qs w.0 c w.2 in (s.0, (w.0, w.1, s.1), s.2)

-- the ends at and above a place stand above their places
abbrev pub RisesFrom : {N : Type 0} → List N → (ℕ → ℕ) → ℕ → Type 0
RisesFrom L ends base = (i : ℕ) → base ≤ i → i < length L → i < ends i

-- each node from a place on ends where the ends say
abbrev pub EndsFrom : {Sh N : Type 0} → System Sh N → List N → (ℕ → ℕ) → ℕ → Type 0
EndsFrom {Sh} {N} S L ends base =
    (i : ℕ) (n : N) → base ≤ i → slice_get L i ≡ Some n
    → (d : Entry Sh N) × (S n ≡ Some d) × Walks L ends d.refs (i + 1) (ends i)

module _ {N : Type 0} (L : List N) (ends : ℕ → ℕ) (base : ℕ) (up : RisesFrom L ends base) where
  step_rises : (r : N) (a c : ℕ) → base ≤ a → IsStep L ends r a c → a ≤ c
  step_rises r a c h s =
      elim s [
        | inl s ↦ let e : c ≡ a = s.3 in omega arith
        | inr s ↦ let u : a < ends a = up a h (slice_get_within L a r s.0) in let e : c ≡ ends a = s.1 in omega arith
      ]

  -- the mark never falls
  pub walk_rises : (rs : List N) (a c : ℕ) → base ≤ a → Walks L ends rs a c → a ≤ c
  walk_rises [] a c h w = let e : a ≡ c = w in omega arith
  walk_rises (r ∷ rs) a c h w =
      let s : a ≤ w.0 = step_rises r a w.0 h w.1 in
      let t : w.0 ≤ c = walk_rises rs w.0 c (omega arith) w.2 in
      omega arith

  -- to a list that has the same nodes at the same places, with the same ends from `base` on
  module _ (M : List N) (ends' : ℕ → ℕ)
      (same : (i : ℕ) (n : N) → slice_get L i ≡ Some n → slice_get M i ≡ Some n)
      (same_ends : (i : ℕ) → base ≤ i → i < length L → ends i ≡ ends' i) where
    -- a walk is one in such a list
    pub move_walk : (rs : List N) (a c : ℕ) → base ≤ a → Walks L ends rs a c → Walks M ends' rs a c
    move_walk [] a c h w = w
    move_walk (r ∷ rs) a c h w =
        let rise : a ≤ w.0 = step_rises r a w.0 h w.1 in (
          w.0,
          elim w.1 [
            | inl s ↦ inl (s.0, s.1, same s.0 r s.2, s.3)
            | inr s ↦ inr (same a r s.0, s.1 ∙ same_ends a h (slice_get_within L a r s.0))
          ],
          move_walk rs w.0 c (omega arith) w.2,
        )

-- the two nodes stand at the same place of two lists
abbrev pub SamePlace : {N P : Type 0} → List N → List P → N → P → Type 0
SamePlace L M n p = (i : ℕ) × (slice_get L i ≡ Some n) × (slice_get M i ≡ Some p)

module _ {N P : Type 0} (L : List N) (M : List P) (ends : ℕ → ℕ) (distinct : AreDistinct L) where
  -- a walk is one of the nodes at the same places of another list
  pub carry_walk :
      (rs : List N) (qs : List P) (a c : ℕ)
      → AllZip (λ n p. SamePlace L M n p) rs qs → Walks L ends rs a c → Walks M ends qs a c
  carry_walk [] [] a c z w = w
  carry_walk [] (q ∷ qs) a c z w = absurd z
  carry_walk (r ∷ rs) [] a c z w = absurd z
  carry_walk (r ∷ rs) (q ∷ qs) a c z w = (
    w.0,
    elim w.1 [
      | inl s ↦ inl (s.0, s.1, subst (λ i. slice_get M i ≡ Some q) (distinct z.0.0 s.0 r z.0.1 s.2) z.0.2, s.3)
      | inr s ↦ inr (subst (λ i. slice_get M i ≡ Some q) (distinct z.0.0 a r z.0.1 s.0) z.0.2, s.1)
    ],
    carry_walk rs qs w.0 c z.1 w.2,
  )

-- each reference of a walk stands in the list
pub walk_members :
    {N : Type 0} (L : List N) (ends : ℕ → ℕ) (rs : List N) (a c : ℕ)
    → Walks L ends rs a c → (n : N) → Contains rs n → (i : ℕ) × (slice_get L i ≡ Some n)
walk_members L ends [] a c w n h = absurd (let p = place_of [] n h in none-some n p.1)
walk_members L ends (r ∷ rs) a c w n h =
    elim (contains_cases r rs n h) [
      | inl e ↦ elim w.1 [ inl s ↦ (s.0, s.2 ∙ ap Some e) | inr s ↦ (a, s.0 ∙ ap Some e) ]
      | inr t ↦ walk_members L ends rs w.0 c w.2 n t
    ]

-- the references of a walk have places
pub places_of_walk :
    {N : Type 0} (L : List N) (ends : ℕ → ℕ) (rs : List N) (a c : ℕ)
    → Walks L ends rs a c → (ps : List ℕ) × ArePlaces L rs ps
places_of_walk L ends [] a c w = ([], tt)
places_of_walk L ends (r ∷ rs) a c w =
    let rest = places_of_walk L ends rs w.0 c w.2 in
    elim w.1 [ inl s ↦ (s.0 ∷ rest.0, (s.2, rest.1)) | inr s ↦ (a ∷ rest.0, (s.0, rest.1)) ]
