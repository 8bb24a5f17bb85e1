-- Small tables and trees, on which the definition of takings is tried.
use Rattle.std.specs.Prelude.{ℕ, List, [], ◌∷◌, codes}
use Rattle.serde_json.specs.Data.{Data, number, unsigned, array, object}
use Rattle.serde_json.specs.Data.{no_members, member}
use Rattle.serde_json.specs.View.{items_of}
use Rattle.scale_info_types.specs.TypeExamples.{id}
use Rattle.scale_info_types.specs.TypeExamples.{example_field, example_variant}
use Rattle.scale_info_types.specs.declared.ty.TypeDef.TheVariants as def
use Rattle.scale_info_primitives.specs.declared.primitive.TypeDefPrimitive.TheVariants as kind
use Rattle.scale_info_table.specs.declared.portable.PortableRegistry.{PortableRegistry}
use Rattle.scale_info_value.specs.ValueExamples.{table_of, enum_of}

-- a list of `u8`, and `u8`
abbrev pub list_of_u8 : PortableRegistry
list_of_u8 =
    table_of (def.Sequence (record { type_param = id 1; form = tt }) ∷ def.Primitive kind.U8 ∷ [])

-- an enum of `A` with the index 3 and no field, and `A` with the index 4 and one field `n`, a
-- `bool`; and `bool`
abbrev pub shared_names : PortableRegistry
shared_names =
    enum_of
    (example_variant (codes "A") 3 []
    ∷ example_variant (codes "A") 4 (example_field (codes "n") 1 ∷ [])
    ∷ [])
    (def.Primitive kind.Bool ∷ [])

-- a struct of two fields `a`, which are `u8`, and `u8`
abbrev pub one_name_twice : PortableRegistry
one_name_twice =
    table_of
    (def.Composite (record {
      fields = example_field (codes "a") 1 ∷ example_field (codes "a") 1 ∷ [];
    })
    ∷ def.Primitive kind.U8 ∷ [])

-- a number without a sign
abbrev pub plain : ℕ → Data
plain n = number (unsigned n)

-- an array of these trees
abbrev pub array_of : List Data → Data
array_of trees = array (items_of trees)

-- an object of this one member
abbrev pub one_member : List ℕ → Data → Data
one_member name tree = object (member name tree no_members)
