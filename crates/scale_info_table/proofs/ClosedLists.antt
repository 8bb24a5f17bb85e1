-- The entries that the table of a closed list of descriptions has.
use Rattle.std.proofs.Common.{◌≡◌, ◌<◌, ◌≤◌, ℕ, zero, suc, ◌+◌, List, [], ◌∷◌, length, map, Some}
use Rattle.std.proofs.Common.{slice_get, refl}
use Rattle.std.proofs.Common.{ap, sym, ◌∙◌, subst, All, Contains}
use Rattle.std.proofs.lemmas.List.Elements.{All-nil, All-cons}
use Rattle.std.specs.List.{enumerate_from}
use Rattle.scale_info_numberings.proofs.Places.{contains_head, contains_tail}
use Rattle.scale_info_references.specs.Closed.{AreClosed}
use Rattle.scale_info_types.specs.Portable.{Description, Id}
use Rattle.scale_info_types.specs.declared.ty.PortableType.{PortableType}
use Rattle.scale_info_types.specs.References.{references}
use Rattle.scale_info_table.specs.BuiltTables.{numbered_from}
use Rattle.scale_info_table.specs.ClosedTables.{AreBelow, HasIndicesAsIds, HasReferencesBelow}
use Rattle.scale_info_table.specs.ClosedTables.{IsClosed}
use Rattle.scale_info_table.specs.declared.portable.PortableRegistry.{PortableRegistry}
use Rattle.scale_info_table.proofs.Interned.{length_numbered}

indexed_by_id :
    (first : ℕ) (types : List Description)
    → All (λ indexed. indexed.1.id ≡ indexed.0) (enumerate_from first (numbered_from first types))
indexed_by_id first [] = All-nil (λ indexed. indexed.1.id ≡ indexed.0)
indexed_by_id first (ty ∷ types) =
    All-cons (λ indexed. indexed.1.id ≡ indexed.0) _ _ refl (indexed_by_id (first + 1) types)

below_by_ids :
    (count : ℕ) (symbols : List Id)
    → ((p : ℕ) → Contains (map (λ (r : Id). r.id) symbols) p → p < count) → AreBelow count symbols
below_by_ids count [] below = All-nil (λ symbol. symbol.id < count)
below_by_ids count (s ∷ symbols) below =
    All-cons (λ symbol. symbol.id < count) s symbols
    (below s.id (contains_head s.id (map (λ (r : Id). r.id) symbols)))
    (below_by_ids count symbols (λ p k. below p (contains_tail s.id (map (λ (r : Id). r.id) symbols) p k)))

numbered_below :
    (count first : ℕ) (types : List Description)
    → ((i : ℕ) (ty : Description) → slice_get types i ≡ Some ty → AreBelow count (references ty))
    → HasReferencesBelow count (numbered_from first types)
numbered_below count first [] below = All-nil (λ entry. AreBelow count (references entry.ty))
numbered_below count first (ty ∷ types) below =
    All-cons (λ entry. AreBelow count (references entry.ty)) _ _ (below zero ty refl)
    (numbered_below count (first + 1) types (λ i other at. below (suc i) other at))

-- the table of a closed list of descriptions is closed
pub closed_table :
    (count : ℕ) (types : List Description) (table : PortableRegistry)
    → table.types ≡ numbered_from 0 types → AreClosed count types → IsClosed table
closed_table count types table is closed =
    let long : length table.types ≡ count = ap length is ∙ length_numbered 0 types ∙ closed.0 in (
      subst HasIndicesAsIds (sym is) (indexed_by_id 0 types),
      subst (λ entries. HasReferencesBelow (length table.types) entries) (sym is)
          (numbered_below (length table.types) 0 types
          (λ i ty at. below_by_ids (length table.types) (references ty)
          (λ p k. subst (λ n. p < n) (sym long) (closed.1 i ty at p k)))),
    )

-- what is said of the table of a closed list of descriptions: how long it is, that it is closed,
-- and that it has at most 4294967295 entries
pub closed_numbered :
    (count : ℕ) (types : List Description) (entries : List PortableType)
    → entries ≡ numbered_from 0 types → AreClosed count types → length types ≤ 4294967295
    → (length entries ≡ count) × IsClosed (record { types = entries })
    × (length entries ≤ 4294967295)
closed_numbered count types entries is closed few =
    let long = ap length is ∙ length_numbered 0 types in (
      long ∙ closed.0,
      closed_table count types (record { types = entries }) is closed,
      subst (λ n. n ≤ 4294967295) (sym long) few,
    )
