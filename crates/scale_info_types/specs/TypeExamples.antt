-- Small descriptions, on which references and shapes are tried.
use Rattle.std.specs.Prelude.{ℕ, List, [], ◌∷◌, Option, Some, None, codes}
use Rattle.scale_info_types.specs.Portable as portable
use Rattle.scale_info_types.specs.Portable.{Id, Text}
use Rattle.scale_info_types.specs.declared.ty.TypeDef.TheVariants as def

-- the id n
abbrev pub id : ℕ → Id
id n = record { id = n; marker = record {} }

-- a description without path, parameters and docs
abbrev pub plain : portable.TypeDef → portable.Description
plain definition = record {
  path = record { segments = []; form = tt };
  type_params = [];
  type_def = definition;
  docs = [];
}

-- a field with this name and type
abbrev pub example_field : Text → ℕ → portable.Field
example_field name ty = record { name = Some name; ty = id ty; type_name = None; docs = [] }

-- a field of a tuple struct, with this type
abbrev pub example_tuple_field : ℕ → portable.Field
example_tuple_field ty = record { name = None; ty = id ty; type_name = None; docs = [] }

-- a variant with this name, index and fields
abbrev pub example_variant : Text → ℕ → List portable.Field → portable.Variant
example_variant name index fields =
    record { name = name; fields = fields; index = index; docs = [] }

-- a parameter with this name and type
abbrev pub parameter : Text → Option Id → portable.TypeParameter
parameter name ty = record { name = name; ty = ty }

-- `struct P<S, T> { a: u8, b: T }` at a skipped `S` and `bool` for `T`, where `bool` is 0 and `u8`
-- is 1
abbrev pub with_parameters : portable.Description
with_parameters = record {
  path = record { segments = codes "P" ∷ []; form = tt };
  type_params = parameter (codes "S") None ∷ parameter (codes "T") (Some (id 0)) ∷ [];
  type_def =
      def.Composite (record {
        fields = example_field (codes "a") 1 ∷ example_field (codes "b") 0 ∷ [];
      });
  docs = [];
}

-- `enum E { B(3, 4), A, C(2) }`
abbrev pub with_variants : portable.Description
with_variants =
    plain (def.Variant (record {
      variants =
          example_variant (codes "B") 0 (example_tuple_field 3 ∷ example_tuple_field 4 ∷ [])
          ∷ example_variant (codes "A") 1 []
          ∷ example_variant (codes "C") 2 (example_tuple_field 2 ∷ [])
          ∷ [];
    }))

-- a bit sequence with this store and order
abbrev pub bit_sequence : ℕ → ℕ → portable.Description
bit_sequence store order =
    plain (def.BitSequence (record {
      bit_store_type = id store;
      bit_order_type = id order;
      form = tt;
    }))

-- a map with these keys and values
abbrev pub key_values : ℕ → ℕ → portable.Description
key_values key value = plain (def.Map (record { key = id key; value = id value; form = tt }))

-- a pair with these members
abbrev pub example_pair : ℕ → ℕ → portable.Description
example_pair first second =
    plain (def.Tuple (record { fields = id first ∷ id second ∷ []; form = tt }))

-- an array with this length and type
abbrev pub array : ℕ → ℕ → portable.Description
array length ty = plain (def.Array (record { len = length; type_param = id ty; form = tt }))
