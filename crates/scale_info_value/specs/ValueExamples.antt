-- Small tables, on which the definition of readings is tried.
use Rattle.std.specs.Prelude.{ℕ, List, [], ◌∷◌, codes, map}
use Rattle.scale_info_types.specs.TypeExamples.{id, plain}
use Rattle.scale_info_types.specs.TypeExamples.{example_field, example_tuple_field, example_variant}
use Rattle.scale_info_types.specs.Portable.{TypeDef, Variant}
use Rattle.scale_info_types.specs.declared.ty.TypeDef.TheVariants as def
use Rattle.scale_info_primitives.specs.declared.primitive.TypeDefPrimitive.{TypeDefPrimitive}
use Rattle.scale_info_primitives.specs.declared.primitive.TypeDefPrimitive.TheVariants as kind
use Rattle.scale_info_table.specs.declared.portable.PortableRegistry.{PortableRegistry}

-- the table of these definitions; its `id` fields are all 0, since nothing goes by them
abbrev pub table_of : List TypeDef → PortableRegistry
table_of ds = record { types = map (λ d. record { id = 0; ty = plain d }) ds }

-- an enum of these variants, and the definitions of their fields
abbrev pub enum_of : List Variant → List TypeDef → PortableRegistry
enum_of variants ds = table_of (def.Variant (record { variants = variants }) ∷ ds)

-- a list of `u32`, and `u32`
abbrev pub list_of_u32 : PortableRegistry
list_of_u32 =
    table_of (def.Sequence (record { type_param = id 1; form = tt }) ∷ def.Primitive kind.U32 ∷ [])

-- a composite of one field, which is of this very type
abbrev pub own_field : PortableRegistry
own_field = table_of (def.Composite (record { fields = example_tuple_field 0 ∷ [] }) ∷ [])

-- `struct S { a: u8, b: bool }`, `u8` and `bool`
abbrev pub named_fields : PortableRegistry
named_fields =
    table_of
    (def.Composite (record {
      fields = example_field (codes "a") 1 ∷ example_field (codes "b") 2 ∷ [];
    })
    ∷ def.Primitive kind.U8 ∷ def.Primitive kind.Bool ∷ [])

-- an enum of two variants, `A` without fields and `B` of one `bool`, which both have the index 3,
-- and `bool`
abbrev pub equal_indices : PortableRegistry
equal_indices =
    enum_of
    (example_variant (codes "A") 3 []
    ∷ example_variant (codes "B") 3 (example_tuple_field 1 ∷ [])
    ∷ [])
    (def.Primitive kind.Bool ∷ [])

-- a compact integer of a primitive
abbrev pub compact_of : TypeDefPrimitive → PortableRegistry
compact_of p =
    table_of (def.Compact (record { type_param = id 1; form = tt }) ∷ def.Primitive p ∷ [])

-- a compact integer of `u8` inside two composites of one field each
abbrev pub compact_of_wrapped : PortableRegistry
compact_of_wrapped =
    table_of
    (def.Compact (record { type_param = id 1; form = tt })
    ∷ def.Composite (record { fields = example_tuple_field 2 ∷ [] })
    ∷ def.Composite (record { fields = example_tuple_field 3 ∷ [] })
    ∷ def.Primitive kind.U8 ∷ [])

-- an array of so many of a type that is missing
abbrev pub array_of_missing : ℕ → PortableRegistry
array_of_missing n = table_of (def.Array (record { len = n; type_param = id 9; form = tt }) ∷ [])

-- a map from `u32` to `bool`, `u32` and `bool`
abbrev pub map_of_u32_to_bool : PortableRegistry
map_of_u32_to_bool =
    table_of
    (def.Map (record { key = id 1; value = id 2; form = tt })
    ∷ def.Primitive kind.U32 ∷ def.Primitive kind.Bool ∷ [])

-- a map from `u8` to maps from `u8` to `bool`, such a map, `u8` and `bool`
abbrev pub map_of_maps : PortableRegistry
map_of_maps =
    table_of
    (def.Map (record { key = id 2; value = id 1; form = tt })
    ∷ def.Map (record { key = id 2; value = id 3; form = tt })
    ∷ def.Primitive kind.U8 ∷ def.Primitive kind.Bool ∷ [])
