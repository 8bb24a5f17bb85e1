-- Tables of what chosen types of the program reach, and why there may be none.
use Rattle.std.specs.Prelude.{◌≡◌, ◌↔◌, ◌≤◌, ℕ, List, [], Bool, Some, length, map, slice_get, ⊤}
use Rattle.std.specs.BTreeMap.{BTreeMap, get}
use Rattle.std.specs.Ordering.{nat_cmp}
use Rattle.scale_info_bytes.specs.Encodings.{HasNoEncoding}
use Rattle.scale_info_bytes.specs.declared.error.EncodeError.{EncodeError}
use Rattle.scale_info_bytes.specs.declared.error.EncodeError.TheVariants as encode
use Rattle.scale_info_identities.specs.TypeIds.{Term, term_of}
use Rattle.scale_info_numberings.specs.Numberings.{IsNumbering}
use Rattle.scale_info_numberings.specs.Systems.{System}
use Rattle.scale_info_numberings.specs.Tables.{ArePlaces, IsTable}
use Rattle.scale_info_catalogue.specs.Discoveries.{IsCause}
use Rattle.scale_info_catalogue.specs.declared.discovery.RegisterError.{RegisterError}
use Rattle.scale_info_catalogue.specs.declared.discovery.RegisterError.TheVariants as register
use Rattle.scale_info_table.specs.TableEncoding.{EncodesRegistry}
use Rattle.scale_info_table.specs.declared.portable.PortableRegistry.{PortableRegistry}
use Rattle.scale_info_types.specs.Shapes.{Shape}
use Rattle.scale_info_types.specs.declared.ty.PortableType.{PortableType}
use Rattle.scale_info_table.specs.Pruned.{IsChosen}
use Rattle.scale_info_walk.specs.TypeSystems.{entry_of}
use Rattle.scale_info_export.specs.declared.export.ExportError.{ExportError}
use Rattle.scale_info_export.specs.declared.export.ExportError.TheVariants.{Undescribed, Full}
use Rattle.scale_info_export.specs.declared.export.ExportError.TheVariants.{TooLong, Memory}

-- The table of the one numbering of the catalogue from the roots, which stand in it at these ids.
-- Each of its references leads to an entry, and there are no more entries than ids.
pub record IsRegisteredTable (S : System Shape Term) (roots : List Term) (ids : List ℕ)
    (table : PortableRegistry) : Type 0 where
  pub order : List Term
  pub numbering : IsNumbering S roots order
  pub places : ArePlaces order roots ids
  pub entries : IsTable S order (map entry_of table.types)
  pub few : length table.types ≤ 4294967295

-- The table of what a filter chooses among the types that the roots reach. `order` is the one
-- numbering of the catalogue from the roots, and `ids` are the places of the roots in it; the
-- filter chose some of its places, where the types `tops` stand; `kept` is the one numbering of
-- the catalogue from these, as if they were registered afresh, and the table is its table. The map
-- takes the place of each kept type in `order` to that in `kept`, and has no other keys.
pub record IsExported (S : System Shape Term) (roots : List Term) {F : Type 0}
    (step : F → ℕ → Bool → F → Type 0) (filter : F) (ids : List ℕ) (new_ids : BTreeMap ℕ ℕ)
    (table : PortableRegistry) : Type 0 where
  pub order : List Term
  pub numbering : IsNumbering S roots order
  pub places : ArePlaces order roots ids
  pub chosen : List ℕ
  pub last : F
  pub asked : IsChosen step filter (length order) chosen last
  pub tops : List Term
  pub chosen_types : ArePlaces order tops chosen
  pub kept : List Term
  pub afresh : IsNumbering S tops kept
  pub entries : IsTable S kept (map entry_of table.types)
  pub own_ids : (i : ℕ) (entry : PortableType) → slice_get table.types i ≡ Some entry → entry.id ≡ i
  pub indices :
      (old new : ℕ)
      → (get nat_cmp new_ids old ≡ Some new)
      ↔ ((n : Term) × (slice_get order old ≡ Some n) × (slice_get kept new ≡ Some n))

-- why nothing was exported: a type that is reached has no description; there are too many; the
-- table has no encoding; or an allocation failed
abbrev pub IsExportError :
    System Shape Term
    → List Term → {F : Type 0} → (F → ℕ → Bool → F → Type 0) → F → ExportError → Type 0
IsExportError S roots step filter (Undescribed id) = IsCause S [] roots (register.Undescribed id)
IsExportError S roots step filter Full = IsCause S [] roots register.Full
IsExportError S roots step filter TooLong =
    (ids : List ℕ) × (new_ids : BTreeMap ℕ ℕ) × (table : PortableRegistry)
    × IsExported S roots step filter ids new_ids table × HasNoEncoding (EncodesRegistry table)
IsExportError S roots step filter Memory = ⊤

-- the error of a registration as one of an export
abbrev pub of_register : RegisterError → ExportError
of_register (register.Undescribed id) = Undescribed id
of_register register.Full = Full
of_register register.Memory = Memory

-- the error of encoding as one of an export
abbrev pub of_encode : EncodeError → ExportError
of_encode encode.TooLong = TooLong
of_encode encode.Memory = Memory

-- the errors are of one variant, and what they hold is the same; an identity is compared as its
-- term
abbrev pub AreSameExportErrors : ExportError → ExportError → Type 0
AreSameExportErrors (Undescribed a) (Undescribed b) = term_of a ≡ term_of b
AreSameExportErrors Full Full = ⊤
AreSameExportErrors TooLong TooLong = ⊤
AreSameExportErrors Memory Memory = ⊤
AreSameExportErrors _ _ = ⊥
