-- A pruned table, entry by entry.
use Rattle.std.proofs.Common.{◌≡◌, ℕ, List, [], ◌∷◌, map, Some, option_map}
use Rattle.std.proofs.Common.{slice_get, ap, sym, ◌∙◌, subst, arith, Contains}
use Rattle.std.proofs.lemmas.List.{length-map}
use Rattle.std.proofs.lemmas.Option.{same_Some, none-some, slice_get_within, slice_get-map}
use Rattle.scale_info_numberings.proofs.Places.{element_at, place_of, contains_at}
use Rattle.scale_info_numberings.proofs.Places.{contains_head, contains_tail}
use Rattle.scale_info_numberings.proofs.Reached.{reached_exactly}
use Rattle.scale_info_numberings.specs.Numberings.{IsNumbering}
use Rattle.scale_info_numberings.specs.Systems.{next}
use Rattle.scale_info_numberings.specs.Tables.{ArePlaces, IsTable}
use Rattle.scale_info_references.proofs.Replaced.{shape_stays, ids_replaced}
use Rattle.scale_info_types.specs.KeptEntries.{kept_entry}
use Rattle.scale_info_types.specs.Portable.{Id, Text}
use Rattle.scale_info_types.specs.References.{references}
use Rattle.scale_info_types.specs.declared.ty.PortableType.{PortableType}
use Rattle.scale_info_walk.specs.Kept.{AreKept}
use Rattle.scale_info_references.specs.Conversions.{ids_in, symbol}
use Rattle.scale_info_walk.specs.TypeSystems.{entry_of, types_system}
use Rattle.scale_info_walk.specs.Walks.{AreNumbers}

-- f gives each reference its number
abbrev pub Agrees : List ℕ → (Id → ℕ) → Type 0
Agrees numbers f = (r : Id) (p : ℕ) → slice_get numbers r.id ≡ Some p → f r ≡ p

-- the new number of each reference is its place
new_places :
    (order numbers : List ℕ) (f : Id → ℕ) (rs : List Id) → AreNumbers order numbers
    → Agrees numbers f
    → ((r : ℕ) → Contains (map (λ (symbol : Id). symbol.id) rs) r → Contains order r)
    → ArePlaces order (map (λ (symbol : Id). symbol.id) rs) (map f rs)
new_places order numbers f [] x agrees all = tt
new_places order numbers f (r ∷ rs) x agrees all =
    let p = place_of order r.id (all r.id (contains_head r.id (map (λ (symbol : Id). symbol.id) rs))) in
    let at = x.placed p.0 r.id p.1 in
    let same : f r ≡ p.0 = agrees r p.0 at in (
      ap (λ j. slice_get order j) same ∙ p.1,
      new_places order numbers f rs x agrees (λ k c. all k (contains_tail r.id (map (λ (symbol : Id). symbol.id) rs) k c)),
    )

module _ (types : List PortableType) (roots order numbers : List ℕ) (f : Id → ℕ) (kept : List PortableType)
    (numbering : IsNumbering (types_system types) roots order) (dense : AreNumbers order numbers)
    (agrees : Agrees numbers f) (x : AreKept types order f kept) where
  -- the references of what is kept are kept
  refs_kept :
      (n : ℕ) (old : PortableType) → Contains order n → slice_get types n ≡ Some old
      → (r : ℕ) → Contains (ids_in old.ty) r → Contains order r
  refs_kept n old c s r h =
      let exact = reached_exactly (types_system types) roots order numbering in
      (exact r).1 (next n r (entry_of old) ((exact n).0 c) (ap (option_map entry_of) s) h (λ z. let p = place_of [] r z in none-some r p.1))

  -- the kept entries are the table of the numbering
  pub kept_table : IsTable (types_system types) order (map entry_of kept)
  kept_table =
      record {
        long = length-map kept entry_of ∙ x.0;
        entries = λ i n e.
            let r = x.1 i n e in
            let new = kept_entry (λ r. symbol (f r)) i r.0 in (
              entry_of r.0,
              entry_of new,
              ap (option_map entry_of) r.1,
              slice_get-map entry_of kept i ∙ ap (option_map entry_of) r.2,
              shape_stays f (λ (text : Text). text) r.0.ty,
              subst (λ (ps : List ℕ). ArePlaces order (ids_in r.0.ty) ps)
                  (sym (ids_replaced f (λ (text : Text). text) r.0.ty))
                  (new_places order numbers f (references r.0.ty) dense agrees
                  (refs_kept n r.0 (contains_at order n i e) r.1)),
            );
      }

  -- each kept entry has its new index as id
  pub kept_ids : (i : ℕ) (entry : PortableType) → slice_get kept i ≡ Some entry → entry.id ≡ i
  kept_ids i entry e =
      let within = slice_get_within kept i entry e in
      let long = x.0 in
      let n = element_at order i (omega arith) in
      let r = x.1 i n.0 n.1 in
      ap (λ (t : PortableType). t.id) (same_Some entry (kept_entry (λ r. symbol (f r)) i r.0) (sym e ∙ r.2))
