-- Entries that are moved out of a list, one by one, and the table that they make.
use Rattle.std.proofs.Common.{◌≡◌, ◌≢◌, ◌↔◌, ℕ, ◌<◌, ◌≤◌, List, [], ◌∷◌, ◌++◌, length}
use Rattle.std.proofs.Common.{Some}
use Rattle.std.proofs.Common.{slice_get, ap, sym, ◌∙◌, subst, arith, inl, inr, Contains}
use Rattle.std.proofs.Common.{get_or, set, take, drop}
use Rattle.std.proofs.lemmas.Bool.{cases_lt}
use Rattle.std.proofs.lemmas.List.{length_push, length-take-le, take-append-drop}
use Rattle.std.proofs.lemmas.Option.{same_Some, slice_get_within, get_or_from_slice_get}
use Rattle.std.proofs.lemmas.Option.{slice_get-get_or}
use Rattle.std.specs.BTreeMap.{BTreeMap, get}
use Rattle.std.specs.Ordering.{nat_cmp}
use Rattle.scale_info_numberings.proofs.Places.{at_left, at_seam, from_left, place_of, contains_at}
use Rattle.scale_info_numberings.specs.Numberings.{AreDistinct, IsNumbering}
use Rattle.scale_info_types.specs.KeptEntries.{kept_entry}
use Rattle.scale_info_types.specs.Portable.{Id}
use Rattle.scale_info_types.specs.declared.ty.PortableType.{PortableType}
use Rattle.scale_info_walk.proofs.Visiting.{numbers_long, set_other}
use Rattle.scale_info_walk.proofs.KeptEntries.{Agrees, kept_table, kept_ids}
use Rattle.scale_info_walk.specs.Kept.{AreKept}
use Rattle.scale_info_table.specs.Pruned.{IsPruned}
use Rattle.scale_info_references.specs.Conversions.{number_of, symbol}
use Rattle.scale_info_walk.specs.TypeSystems.{types_system}
use Rattle.scale_info_walk.specs.Walks.{AreNumbers}

-- kept entries, and the entry at index k with the next id, are the kept ones of one index more
pub kept_more :
    (types : List PortableType) (order : List ℕ) (f : Id → ℕ) (kept : List PortableType) (k : ℕ)
    (old new : PortableType)
    → slice_get types k ≡ Some old
    → new ≡ kept_entry (λ r. symbol (f r)) (length kept) old
    → AreKept types order f kept → AreKept types (order ++ k ∷ []) f (kept ++ new ∷ [])
kept_more types order f kept k old new s e x =
    let a = length_push kept new in
    let b = length_push order k in
    let same = x.0 in (
      omega arith,
      λ i m h.
          let within = slice_get_within (order ++ k ∷ []) i m h in
          elim (cases_lt i (length order)) [
            | inl low ↦
                let r = x.1 i m (from_left order (k ∷ []) i m low h) in
                (r.0, r.1, at_left kept (new ∷ []) i _ r.2)
            | inr high ↦
                let here : i ≡ length order = omega arith in
                let there : i ≡ length kept = omega arith in
                let key : k ≡ m =
                same_Some k m
                (sym (at_seam order [] k) ∙ (ap (λ j. slice_get (order ++ k ∷ []) j) (sym here) ∙ h)) in (
                  old,
                  ap (λ j. slice_get types j) (sym key) ∙ s,
                  ap (λ j. slice_get (kept ++ new ∷ []) j) there
                      ∙ (at_seam kept [] new
                      ∙ ap Some (e ∙ ap (λ j. kept_entry (λ r. symbol (f r)) j old) (sym there))),
                )
          ],
    )

-- in a list without repetition no element stands before its place
pub not_before :
    (order : List ℕ) (i d : ℕ) → AreDistinct order → i < length order
    → ¬ (Contains (take i order) (get_or order i d))
not_before order i d distinct h c =
    let key = get_or order i d in
    let p = place_of (take i order) key c in
    let low : p.0 < length (take i order) = slice_get_within (take i order) p.0 key p.1 in
    let short : length (take i order) ≡ i = length-take-le i order (omega arith) in
    let there : slice_get order p.0 ≡ Some key =
    subst (λ (os : List ℕ). slice_get os p.0 ≡ Some key) (take-append-drop i order)
    (at_left (take i order) (drop i order) p.0 key p.1) in
    let same : p.0 ≡ i = distinct p.0 i key there (slice_get-get_or order i d h) in
    omega arith

-- where all but the elements at these indices are the old ones, so are all but those and the one at
-- index k, once that one is replaced
pub others_stay :
    {A : Type 0} (old all : List A) (order : List ℕ) (k : ℕ) (v : A)
    → ((j : ℕ) → ¬ (Contains order j) → slice_get all j ≡ slice_get old j)
    → (j : ℕ) → ¬ (Contains (order ++ k ∷ []) j) → slice_get (set all k v) j ≡ slice_get old j
others_stay old all order k v x j out =
    set_other all k j v (λ e. out (contains_at (order ++ k ∷ []) j (length order) (at_seam order [] k ∙ ap Some (sym e))))
    ∙ x j
    (λ c. let p = place_of order j c in out (contains_at (order ++ k ∷ []) j p.0 (at_left order (k ∷ []) p.0 j p.1)))

-- no more indices are in an order than its dense list has numbers
pub order_few :
    (order numbers : List ℕ) {count : ℕ} → AreNumbers order numbers → length numbers ≡ count
    → count ≤ 4294967295 → length order ≤ 4294967295
order_few order numbers dense long few = omega (arith, numbers_long order numbers dense, long, few)

-- the numbers that a dense list has
pub numbers_agree : (numbers : List ℕ) → Agrees numbers (number_of numbers)
numbers_agree numbers r p e = get_or_from_slice_get numbers r.id p 0 e

module _ (types : List PortableType) (roots order numbers : List ℕ) (f : Id → ℕ) (kept : List PortableType)
    (numbering : IsNumbering (types_system types) roots order) (dense : AreNumbers order numbers)
    (agrees : Agrees numbers f) (x : AreKept types order f kept) where
  -- a map with the dense list's numbers takes each index of the order to its place, and no other
  pub kept_indices :
      (new_ids : BTreeMap ℕ ℕ) → length order ≤ 4294967295
      → ((old new : ℕ) → (get nat_cmp new_ids old ≡ Some new)
      ↔ ((slice_get numbers old ≡ Some new) × (new ≢ 4294967295)))
      → (old new : ℕ) → (get nat_cmp new_ids old ≡ Some new) ↔ (slice_get order new ≡ Some old)
  kept_indices new_ids few m old new = (
    (λ e. let h = (m old new).0 e in dense.numbered old new h.0 h.1),
    (λ e.
        let within = slice_get_within order new old e in
        (m old new).1 (dense.placed new old e, λ same. omega arith)),
  )

  -- the kept entries, with such a map, are the table pruned from the roots
  pub is_pruned :
      (new_ids : BTreeMap ℕ ℕ) → length order ≤ 4294967295
      → ((old new : ℕ) → (get nat_cmp new_ids old ≡ Some new)
      ↔ ((slice_get numbers old ≡ Some new) × (new ≢ 4294967295)))
      → IsPruned types roots kept new_ids
  is_pruned new_ids few m =
      record {
        order = order;
        numbering = numbering;
        table = kept_table types roots order numbers f kept numbering dense agrees x;
        ids = kept_ids types roots order numbers f kept numbering dense agrees x;
        indices = kept_indices new_ids few m;
      }
