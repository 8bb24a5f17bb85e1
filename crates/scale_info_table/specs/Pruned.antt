-- Tables that keep what some of their entries reach.
use Rattle.std.specs.Prelude.{◌≡◌, ◌↔◌, ℕ, zero, suc, ◌<◌, ◌≤◌, List, [], ◌∷◌, ◌++◌, Bool}
use Rattle.std.specs.Prelude.{Some, cond, length, map, slice_get, ⊤}
use Rattle.std.specs.BTreeMap.{BTreeMap, get}
use Rattle.std.specs.Ordering.{nat_cmp}
use Rattle.scale_info_types.specs.declared.ty.PortableType.{PortableType}
use Rattle.scale_info_numberings.specs.Numberings.{IsNumbering}
use Rattle.scale_info_numberings.specs.Systems.{IsFirstOutside}
use Rattle.scale_info_numberings.specs.Tables.{IsTable}
use Rattle.scale_info_walk.specs.TypeSystems.{entry_of, types_system}
use Rattle.scale_info_walk.specs.declared.walk.RetainError.{RetainError}
use Rattle.scale_info_walk.specs.declared.walk.RetainError.TheVariants.{Dangling, TooManyTypes}
use Rattle.scale_info_walk.specs.declared.walk.RetainError.TheVariants.{Memory}

-- A filter that is asked once for each id below n, from 0 up: it begins in the state `first`,
-- returns true for the chosen ids and false for the others, and ends in the state `last`.
abbrev pub IsChosen : {F : Type 0} → (F → ℕ → Bool → F → Type 0) → F → ℕ → List ℕ → F → Type 0
IsChosen step first zero chosen last = (chosen ≡ []) × (first ≡ last)
IsChosen {F} step first (suc n) chosen last =
    (before : List ℕ) × (state : F) × (answer : Bool)
    × IsChosen step first n before state × step state n answer last
    × (chosen ≡ cond answer (before ++ n ∷ []) before)

-- The kept entries are the table of the numbering of these types from the roots: each kept entry
-- has its new index as id, the shape that it had, and its references by their new indices. The map
-- takes the old index of each kept entry to the new one, and has no other keys.
pub record IsPruned (types : List PortableType) (roots : List ℕ) (kept : List PortableType)
    (new_ids : BTreeMap ℕ ℕ) : Type 0 where
  pub order : List ℕ
  pub numbering : IsNumbering (types_system types) roots order
  pub table : IsTable (types_system types) order (map entry_of kept)
  pub ids : (i : ℕ) (entry : PortableType) → slice_get kept i ≡ Some entry → entry.id ≡ i
  pub indices :
      (old new : ℕ) → (get nat_cmp new_ids old ≡ Some new) ↔ (slice_get order new ≡ Some old)

-- why a table is not pruned to what a filter chooses: an id is met from the chosen ones that is no
-- index, and it is the first such; there are more than 4294967295 entries; or an allocation failed
abbrev pub IsRetainError :
    {F : Type 0}
    → (F → ℕ → Bool → F → Type 0) → F → List PortableType → RetainError → Type 0
IsRetainError {F} step first types (Dangling id) =
    (chosen : List ℕ) × (last : F) × IsChosen step first (length types) chosen last
    × IsFirstOutside (types_system types) [] chosen id × (length types ≤ id)
IsRetainError step first types TooManyTypes = 4294967295 < length types
IsRetainError step first types Memory = ⊤
