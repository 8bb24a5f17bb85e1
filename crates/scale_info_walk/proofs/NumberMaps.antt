-- The map of old indices to new ones.
use Rattle.std.proofs.Common.{◌≡◌, ◌≢◌, ◌↔◌, ℕ, ◌+◌, ◌<◌, ◌≤◌, List, length, Some}
use Rattle.std.proofs.Common.{slice_get, false, ap, sym, ◌∙◌, arith, inl, inr}
use Rattle.std.proofs.lemmas.Bool.{cases_lt}
use Rattle.std.proofs.lemmas.Option.{same_Some, slice_get_within}
use Rattle.std.specs.BTreeMap.{BTreeMap, Updates, get}
use Rattle.std.specs.Cmp.{nat_cmp_is}
use Rattle.std.specs.Ordering.{is_eq, nat_cmp}
use Rattle.std.specs.declared.cmp.Ordering.TheVariants.{Less, Greater}
use Rattle.scale_info_walk.proofs.Visiting.{same_or_not}

other_key : (x y : ℕ) → x ≢ y → is_eq (nat_cmp x y) ≡ false
other_key x y ne =
    elim (cases_lt x y) [
      | inl h ↦ ap is_eq (sym (nat_cmp_is x y Less h))
      | inr h ↦
          elim (cases_lt y x) [
            | inl k ↦ ap is_eq (sym (nat_cmp_is x y Greater k))
            | inr k ↦ absurd (ne (omega arith))
          ]
    ]

-- the map has the numbers of the indices below n
abbrev pub HasNumbers : List ℕ → ℕ → BTreeMap ℕ ℕ → Type 0
HasNumbers numbers n m =
    (old new : ℕ) → (get nat_cmp m old ≡ Some new)
    ↔ ((old < n) × (slice_get numbers old ≡ Some new) × (new ≢ 4294967295))

-- a map with the numbers of the indices below n has those below n + 1, if index n has none
pub map_skips :
    (numbers : List ℕ) (n : ℕ) (m : BTreeMap ℕ ℕ) → HasNumbers numbers n m
    → slice_get numbers n ≡ Some 4294967295 → HasNumbers numbers (n + 1) m
map_skips numbers n m x e old new = (
  (λ h. let r = (x old new).0 h in let less = r.0 in (omega arith, r.1, r.2)),
  (λ h.
      let less = h.0 in
      elim (same_or_not old n) [
        | inl same ↦
            absurd (h.2 (same_Some new 4294967295 (sym h.1 ∙ (ap (λ j. slice_get numbers j) same ∙ e))))
        | inr other ↦
            (x old new).1
            (elim (cases_lt old n) [ inl k ↦ k | inr k ↦ absurd (other (omega arith)) ], h.1, h.2)
      ]),
)

-- a map with the numbers below n has those below n + 1, once it takes index n to its number
pub map_adds :
    (numbers : List ℕ) (n v : ℕ) (m after : BTreeMap ℕ ℕ) → HasNumbers numbers n m
    → slice_get numbers n ≡ Some v → v ≢ 4294967295 → Updates nat_cmp m after n (Some v)
    → HasNumbers numbers (n + 1) after
map_adds numbers n v m after x e some u old new =
    elim (same_or_not old n) [
      | inl same ↦
          let at : slice_get numbers old ≡ Some v = ap (λ j. slice_get numbers j) same ∙ e in
          let is : get nat_cmp after old ≡ Some v = ap (λ j. get nat_cmp after j) same ∙ u.1 in (
            (λ h.
                let eq : v ≡ new = same_Some v new (sym is ∙ h) in
                (omega arith, at ∙ ap Some eq, λ z. some (eq ∙ z))),
            (λ h. is ∙ (sym at ∙ h.1)),
          )
      | inr other ↦
          let stays = u.2 old (other_key n old (λ z. other (sym z))) in (
            (λ h. let r = (x old new).0 (sym stays ∙ h) in let less = r.0 in (omega arith, r.1, r.2)),
            (λ h.
                let less = h.0 in
                stays ∙ (x old new).1
                (elim (cases_lt old n) [ inl k ↦ k | inr k ↦ absurd (other (omega arith)) ], h.1, h.2)),
          )
    ]

-- where n is past the last index, the map has the numbers of all indices, and no other keys
pub map_all :
    (numbers : List ℕ) (n : ℕ) (m : BTreeMap ℕ ℕ) → length numbers ≤ n → HasNumbers numbers n m
    → (old new : ℕ) → (get nat_cmp m old ≡ Some new)
    ↔ ((slice_get numbers old ≡ Some new) × (new ≢ 4294967295))
map_all numbers n m long x old new = (
  (λ h. let r = (x old new).0 h in (r.1, r.2)),
  (λ h. let less = slice_get_within numbers old new h.0 in (x old new).1 (omega arith, h.0, h.1)),
)
