-- A small table.
use Rattle.std.specs.Prelude.{ℕ, [], ◌∷◌}
use Rattle.scale_info_types.specs.declared.ty.TypeDef.TheVariants as def
use Rattle.scale_info_primitives.specs.declared.primitive.TypeDefPrimitive.TheVariants as kind
use Rattle.scale_info_types.specs.Portable.{Id, TypeDef}
use Rattle.scale_info_types.specs.declared.ty.PortableType.{PortableType}
use Rattle.scale_info_table.specs.declared.portable.PortableRegistry.{PortableRegistry}

-- an entry without path, parameters and docs
abbrev entry : ℕ → TypeDef → PortableType
entry id definition = record {
  id = id;
  ty = record {
    path = record { segments = []; form = tt };
    type_params = [];
    type_def = definition;
    docs = [];
  };
}

abbrev second : Id
second = record { id = 1; marker = record {} }

-- the table of `Vec<u32>`: a sequence of the second entry, and u32
abbrev pub vec_u32 : PortableRegistry
vec_u32 = record {
  types =
      entry 0 (def.Sequence (record { type_param = second; form = tt }))
      ∷ entry 1 (def.Primitive kind.U32)
      ∷ [];
}
