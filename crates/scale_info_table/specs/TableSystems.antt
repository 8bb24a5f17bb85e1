-- A table of descriptions as a reference system, whose nodes are its indices.
use Rattle.scale_info_types.specs.Shapes.{Shape}
use Rattle.std.specs.Prelude.{ℕ}
use Rattle.scale_info_numberings.specs.Systems.{System}
use Rattle.scale_info_table.specs.declared.portable.PortableRegistry.{PortableRegistry}
use Rattle.scale_info_walk.specs.TypeSystems.{types_system}

-- what stands at each index: the shape of the description and its references, as numbers; the `id`
-- field is no part of it
abbrev pub system_of : PortableRegistry → System Shape ℕ
system_of table = types_system table.types
