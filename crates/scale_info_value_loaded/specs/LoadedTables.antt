-- What is loaded of a table.
use Rattle.std.specs.Prelude.{◌≡◌, ℕ, ◌<◌, List, Some, length, slice_get, slice_index_or}
use Rattle.scale_info_numberings.specs.Systems.{IsReached}
use Rattle.scale_info_primitives.specs.declared.primitive.TypeDefPrimitive.TheVariants as kind
use Rattle.scale_info_table.specs.TableSystems.{system_of}
use Rattle.scale_info_table.specs.declared.portable.PortableRegistry.{PortableRegistry}
use Rattle.scale_info_types.specs.Portable.{TypeDef}
use Rattle.scale_info_types.specs.TypeExamples.{plain}
use Rattle.scale_info_types.specs.declared.ty.PortableType.{PortableType}
use Rattle.scale_info_types.specs.declared.ty.TypeDef.TheVariants as def
use Rattle.scale_info_value.specs.Readings.{reading}
use Rattle.scale_info_value.specs.declared.value.Value.{Value}
use Rattle.scale_info_value_visit.specs.Events.{events}

-- what stands for a definition that is not loaded: values of `char` are not decoded
abbrev pub not_decoded : TypeDef
not_decoded = def.Primitive kind.Char

-- what stands for an entry that is not loaded
abbrev pub not_loaded : PortableType
not_loaded = record { id = 0; ty = plain not_decoded }

-- the loaded entry with this number, if there is one
abbrev pub entry_numbered : List PortableType → ℕ → PortableType
entry_numbered entries number = slice_index_or entries number not_loaded

-- the part of a table that is reached from these ids: as long as the table, with its entry at each
-- index that is reached, and at no other one
pub record IsPartOf (table : PortableRegistry) (ids : List ℕ)
    (part : PortableRegistry) : Type 0 where
  pub long : length part.types ≡ length table.types
  pub loaded :
      (id : ℕ) → IsReached (system_of table) ids id
      → slice_get part.types id ≡ slice_get table.types id
  pub others :
      (id : ℕ) → id < length table.types → ¬ (IsReached (system_of table) ids id)
      → slice_get part.types id ≡ Some not_loaded

-- values of the type with this id are read by both tables alike, at each depth, and shown alike
pub record IsAlikeAt (table part : PortableRegistry) (id : ℕ) : Type 0 where
  pub reads :
      (depth : ℕ) (input : List ℕ)
      → reading part id depth input ≡ reading table id depth input
  pub shows : (value : Value) → events part id value ≡ events table id value
