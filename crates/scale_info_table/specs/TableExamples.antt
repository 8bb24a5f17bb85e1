-- A table on which the reading of tables as reference systems is tried.
use Rattle.std.specs.Prelude.{[], ◌∷◌}
use Rattle.scale_info_types.specs.TypeExamples.{key_values, plain}
use Rattle.scale_info_types.specs.declared.ty.TypeDef.TheVariants as def
use Rattle.scale_info_primitives.specs.declared.primitive.TypeDefPrimitive.TheVariants as kind
use Rattle.scale_info_table.specs.declared.portable.PortableRegistry.{PortableRegistry}

-- at index 0 a map from the type at index 1 to the map, with the id 7; at index 1 `bool`, with the
-- id 0
abbrev pub ids_that_are_not_indices : PortableRegistry
ids_that_are_not_indices = record {
  types =
      record { id = 7; ty = key_values 1 0 }
      ∷ record { id = 0; ty = plain (def.Primitive kind.Bool) }
      ∷ [];
}
