-- A list of descriptions as a reference system, whose nodes are its indices.
use Rattle.std.specs.Prelude.{ℕ, List, option_map, slice_get}
use Rattle.scale_info_references.specs.Conversions.{ids_in}
use Rattle.scale_info_types.specs.Shapes.{Shape, shape}
use Rattle.scale_info_types.specs.declared.ty.PortableType.{PortableType}
use Rattle.scale_info_numberings.specs.Systems.{Entry, System}

-- the shape of a description and its references, as numbers; the `id` field is no part of it
abbrev pub entry_of : PortableType → Entry Shape ℕ
entry_of entry = record { shape = shape (λ text. text) entry.ty; refs = ids_in entry.ty }

-- the entry at each index
abbrev pub types_system : List PortableType → System Shape ℕ
types_system types place = option_map entry_of (slice_get types place)
