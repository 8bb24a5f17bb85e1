-- Entries of a table whose descriptions stay in a catalogue.
use Rattle.std.specs.Borrow.{Bor}
use Rattle.std.specs.List.{flat_map}
use Rattle.std.specs.Option.{option_to_list}
use Rattle.std.specs.Prelude.{ℕ, List, map, slice_get}
use Rattle.scale_info_identities.specs.declared.type_id.TypeId.{TypeId}
use Rattle.scale_info_references.specs.Conversions.{number_of, symbol, with_ids}
use Rattle.scale_info_registry.specs.BorrowedTypes.{all_with_ids_in, id_in}
use Rattle.scale_info_table.specs.BuiltTables.{numbered_from}
use Rattle.scale_info_types.specs.MetaDescriptions.{MetaDescription}
use Rattle.scale_info_types.specs.declared.meta_type.MetaType.{MetaType}
use Rattle.scale_info_types.specs.declared.ty.PortableType.{PortableType}

-- the entries that these descriptions stand for, each type by the id that the identities give it
abbrev pub borrowed_entries : List TypeId → List (Bor MetaDescription) → List PortableType
borrowed_entries ids descriptions = numbered_from 0 (all_with_ids_in ids descriptions)

-- the elements at these indices, in turn
abbrev pub picked : {A : Type 0} → List A → List ℕ → List A
picked xs indices = flat_map (λ k. option_to_list (slice_get xs k)) indices

-- the new id of a type: the number at its id, or 0 where there is none
abbrev pub new_id : List TypeId → List ℕ → MetaType → ℕ
new_id ids numbers ty = number_of numbers (symbol (id_in ids ty))

-- the entry with this id that a description becomes, each type by its new id
abbrev pub renumbered_entry : List TypeId → List ℕ → ℕ → MetaDescription → PortableType
renumbered_entry ids numbers id d =
    record { id = id; ty = with_ids (new_id ids numbers) (λ text. text.now) d }

-- the entries that these descriptions become, with ids from 0 up
abbrev pub renumbered_entries :
    List TypeId → List ℕ → List (Bor MetaDescription) → List PortableType
renumbered_entries ids numbers kept =
    numbered_from 0 (map (λ d. with_ids (new_id ids numbers) (λ text. text.now) d.now) kept)
