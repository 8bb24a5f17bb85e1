-- A tree means at most one description, one part of it, one entry, and one table.
use Rattle.std.specs.Prelude.{◌^◌, codes, ◌≡◌, ℕ, List, refl}
use Rattle.scale_info_json_trees.specs.Meaning.{IsMeaning, MeansNumber, MeansText, MeansList}
use Rattle.scale_info_json_tree.specs.Laws.{number_law, text_law, value_unique, list_at_unique}
use Rattle.scale_info_json_tree.specs.Laws.{option_unique, no_object, through_law, list_law}
use Rattle.scale_info_json_trees.specs.PartTrees.{MeansId, MeansParameter, MeansField, MeansVariant}
use Rattle.std.proofs.Common.{sym, ◌∙◌, ap, subst}
use Rattle.serde_json.specs.Data.{Data, string, object, no_members, member}
use Rattle.scale_info_types.specs.Portable as portable
use Rattle.scale_info_types.specs.declared.ty.TypeDef.TheVariants as def
use Rattle.scale_info_primitives.specs.declared.primitive.TypeDefPrimitive.{TypeDefPrimitive}
use Rattle.scale_info_primitives.specs.declared.primitive.TypeDefPrimitive.TheVariants as kind
use Rattle.scale_info_primitives.specs.Primitives.{primitive_name}
use Rattle.scale_info_json_trees.specs.DefinitionTrees.{MeansComposite, MeansVariantType}
use Rattle.scale_info_json_trees.specs.DefinitionTrees.{MeansSequence, MeansArray, MeansCompact}
use Rattle.scale_info_json_trees.specs.DefinitionTrees.{MeansBitSequence, MeansMap, MeansPrimitive}
use Rattle.scale_info_json_trees.specs.DefinitionTrees.{MeansUnder, composite, variant, sequence}
use Rattle.scale_info_json_trees.specs.DefinitionTrees.{array, tuple, primitive, compact}
use Rattle.scale_info_json_trees.specs.DefinitionTrees.{bit_sequence, map, MeansTypeDef}
use Rattle.scale_info_json_tree.specs.JsonTables.{MeansTable}
use Rattle.scale_info_json_trees.specs.EntryTrees.{MeansDescription, MeansEntry}

-- a tree means at most one id
pub id_law : IsMeaning MeansId
id_law =
    through_law (λ v. v.id) (λ v w e i. record { id = e i; marker = v.marker })
    (number_law (2 ^ 32))

-- a tree means at most one parameter
pub parameter_law : IsMeaning MeansParameter
parameter_law = record {
  unique = λ d v w p q i. record {
    name = value_unique MeansText text_law (codes "name") d v.name w.name p.name q.name i;
    ty = option_unique MeansId id_law (codes "type") d v.ty w.ty p.ty q.ty i;
  };
  not_null = λ v p. no_object p.object;
}

-- a tree means at most one field
pub field_law : IsMeaning MeansField
field_law = record {
  unique = λ d v w p q i. record {
    name = option_unique MeansText text_law (codes "name") d v.name w.name p.name q.name i;
    ty = value_unique MeansId id_law (codes "type") d v.ty w.ty p.ty q.ty i;
    type_name =
        option_unique MeansText text_law (codes "typeName") d v.type_name w.type_name p.type_name
        q.type_name i;
    docs = list_at_unique MeansText text_law (codes "docs") d v.docs w.docs p.docs q.docs i;
  };
  not_null = λ v p. no_object p.object;
}

-- a tree means at most one variant
pub variant_law : IsMeaning MeansVariant
variant_law = record {
  unique = λ d v w p q i. record {
    name = value_unique MeansText text_law (codes "name") d v.name w.name p.name q.name i;
    fields =
        list_at_unique MeansField field_law (codes "fields") d v.fields w.fields
        p.fields q.fields i;
    index =
        value_unique (MeansNumber 256) (number_law 256) (codes "index") d v.index w.index p.index
        q.index i;
    docs = list_at_unique MeansText text_law (codes "docs") d v.docs w.docs p.docs q.docs i;
  };
  not_null = λ v p. no_object p.object;
}

-- a tree means at most one composite
pub composite_law : IsMeaning MeansComposite
composite_law = record {
  unique = λ d v w p q i. record {
    fields =
        list_at_unique MeansField field_law (codes "fields") d v.fields w.fields
        p.fields q.fields i;
  };
  not_null = λ v p. no_object p.object;
}

-- a tree means at most one enum
pub variant_type_law : IsMeaning MeansVariantType
variant_type_law = record {
  unique = λ d v w p q i. record {
    variants =
        list_at_unique MeansVariant variant_law (codes "variants") d v.variants w.variants
        p.variants q.variants i;
  };
  not_null = λ v p. no_object p.object;
}

-- a tree means at most one sequence
pub sequence_law : IsMeaning MeansSequence
sequence_law = record {
  unique = λ d v w p q i. record {
    type_param =
        value_unique MeansId id_law (codes "type") d v.type_param w.type_param p.type_param
        q.type_param i;
    form = tt;
  };
  not_null = λ v p. no_object p.object;
}

-- a tree means at most one array
pub array_law : IsMeaning MeansArray
array_law = record {
  unique = λ d v w p q i. record {
    len =
        value_unique (MeansNumber (2 ^ 32)) (number_law (2 ^ 32)) (codes "len") d v.len w.len p.len
        q.len i;
    type_param =
        value_unique MeansId id_law (codes "type") d v.type_param w.type_param p.type_param
        q.type_param i;
    form = tt;
  };
  not_null = λ v p. no_object p.object;
}

-- a tree means at most one compact integer
pub compact_law : IsMeaning MeansCompact
compact_law = record {
  unique = λ d v w p q i. record {
    type_param =
        value_unique MeansId id_law (codes "type") d v.type_param w.type_param p.type_param
        q.type_param i;
    form = tt;
  };
  not_null = λ v p. no_object p.object;
}

-- a tree means at most one bit sequence
pub bit_sequence_law : IsMeaning MeansBitSequence
bit_sequence_law = record {
  unique = λ d v w p q i. record {
    bit_store_type =
        value_unique MeansId id_law (codes "bit_store_type") d v.bit_store_type w.bit_store_type
        p.bit_store_type q.bit_store_type i;
    bit_order_type =
        value_unique MeansId id_law (codes "bit_order_type") d v.bit_order_type w.bit_order_type
        p.bit_order_type q.bit_order_type i;
    form = tt;
  };
  not_null = λ v p. no_object p.object;
}

-- a tree means at most one map
pub map_law : IsMeaning MeansMap
map_law = record {
  unique = λ d v w p q i. record {
    key = value_unique MeansId id_law (codes "key") d v.key w.key p.key q.key i;
    value = value_unique MeansId id_law (codes "value") d v.value w.value p.value q.value i;
    form = tt;
  };
  not_null = λ v p. no_object p.object;
}

-- ---- names of primitives

-- the string is the name of the primitive, a line for each
pub data IsNamed : List ℕ → TypeDefPrimitive → Type 0 where
  bool : IsNamed (codes "bool") kind.Bool
  char : IsNamed (codes "char") kind.Char
  str : IsNamed (codes "str") kind.Str
  u8 : IsNamed (codes "u8") kind.U8
  u16 : IsNamed (codes "u16") kind.U16
  u32 : IsNamed (codes "u32") kind.U32
  u64 : IsNamed (codes "u64") kind.U64
  u128 : IsNamed (codes "u128") kind.U128
  u256 : IsNamed (codes "u256") kind.U256
  i8 : IsNamed (codes "i8") kind.I8
  i16 : IsNamed (codes "i16") kind.I16
  i32 : IsNamed (codes "i32") kind.I32
  i64 : IsNamed (codes "i64") kind.I64
  i128 : IsNamed (codes "i128") kind.I128
  i256 : IsNamed (codes "i256") kind.I256

-- each primitive has its name
pub is_named : (v : TypeDefPrimitive) → IsNamed (primitive_name v) v
is_named kind.Bool = bool
is_named kind.Char = char
is_named kind.Str = str
is_named kind.U8 = u8
is_named kind.U16 = u16
is_named kind.U32 = u32
is_named kind.U64 = u64
is_named kind.U128 = u128
is_named kind.U256 = u256
is_named kind.I8 = i8
is_named kind.I16 = i16
is_named kind.I32 = i32
is_named kind.I64 = i64
is_named kind.I128 = i128
is_named kind.I256 = i256

name_unique : (k : List ℕ) (v w : TypeDefPrimitive) → IsNamed k v → IsNamed k w → v ≡ w
name_unique k v w bool bool = refl
name_unique k v w char char = refl
name_unique k v w str str = refl
name_unique k v w u8 u8 = refl
name_unique k v w u16 u16 = refl
name_unique k v w u32 u32 = refl
name_unique k v w u64 u64 = refl
name_unique k v w u128 u128 = refl
name_unique k v w u256 u256 = refl
name_unique k v w i8 i8 = refl
name_unique k v w i16 i16 = refl
name_unique k v w i32 i32 = refl
name_unique k v w i64 i64 = refl
name_unique k v w i128 i128 = refl
name_unique k v w i256 i256 = refl

-- a tree means at most one primitive
pub primitive_law : IsMeaning MeansPrimitive
primitive_law = record {
  unique = λ d v w p q.
      let e : string (primitive_name v) ≡ string (primitive_name w) = sym p.is ∙ q.is in
      let same : primitive_name v ≡ primitive_name w = cc in
      name_unique (primitive_name w) v w (subst (λ k. IsNamed k v) same (is_named v)) (is_named w);
  not_null = λ v p. let e = p.is in cc;
}

-- ---- definitions

under_unique :
    (k : List ℕ) (t : Data) (v w : portable.TypeDef) → MeansUnder k t v → MeansUnder k t w → v ≡ w
under_unique k t v w (composite p) (composite q) = ap def.Composite (composite_law.unique t _ _ p q)
under_unique k t v w (variant p) (variant q) = ap def.Variant (variant_type_law.unique t _ _ p q)
under_unique k t v w (sequence p) (sequence q) = ap def.Sequence (sequence_law.unique t _ _ p q)
under_unique k t v w (array p) (array q) = ap def.Array (array_law.unique t _ _ p q)
under_unique k t v w (tuple p) (tuple q) =
    let e = (list_law id_law).unique t _ _ p q in
    λ i. def.Tuple (record { fields = e i; form = tt })
under_unique k t v w (primitive p) (primitive q) = ap def.Primitive (primitive_law.unique t _ _ p q)
under_unique k t v w (compact p) (compact q) = ap def.Compact (compact_law.unique t _ _ p q)
under_unique k t v w (bit_sequence p) (bit_sequence q) =
    ap def.BitSequence (bit_sequence_law.unique t _ _ p q)
under_unique k t v w (map p) (map q) = ap def.Map (map_law.unique t _ _ p q)

type_def_unique : (d : Data) (v w : portable.TypeDef) → MeansTypeDef d v → MeansTypeDef d w → v ≡ w
type_def_unique d v w p q =
    let e : object (member p.key p.tree no_members) ≡ object (member q.key q.tree no_members)
    = sym p.only ∙ q.only in
    let k : p.key ≡ q.key = cc in
    let t : p.tree ≡ q.tree = cc in
    let first : MeansUnder q.key p.tree v = subst (λ x. MeansUnder x p.tree v) k p.means in
    under_unique q.key q.tree v w (subst (λ x. MeansUnder q.key x v) t first) q.means

-- a tree means at most one definition
pub type_def_law : IsMeaning MeansTypeDef
type_def_law = record { unique = type_def_unique; not_null = λ v p. let e = p.only in cc }

-- a tree means at most one description
pub description_law : IsMeaning MeansDescription
description_law = record {
  unique = λ d v w p q i. record {
    path = record {
      segments =
          list_at_unique MeansText text_law (codes "path") d v.path.segments w.path.segments p.path
          q.path i;
      form = tt;
    };
    type_params =
        list_at_unique MeansParameter parameter_law (codes "params") d v.type_params w.type_params
        p.type_params q.type_params i;
    type_def =
        value_unique MeansTypeDef type_def_law (codes "def") d v.type_def w.type_def p.type_def
        q.type_def i;
    docs = list_at_unique MeansText text_law (codes "docs") d v.docs w.docs p.docs q.docs i;
  };
  not_null = λ v p. no_object p.object;
}

-- a tree means at most one entry
pub entry_law : IsMeaning MeansEntry
entry_law = record {
  unique = λ d v w p q i. record {
    id =
        value_unique (MeansNumber (2 ^ 32)) (number_law (2 ^ 32)) (codes "id") d v.id w.id p.id q.id
        i;
    ty = value_unique MeansDescription description_law (codes "type") d v.ty w.ty p.ty q.ty i;
  };
  not_null = λ v p. no_object p.object;
}

-- a tree means at most one table
pub table_law : IsMeaning MeansTable
table_law = record {
  unique = λ d v w p q i. record {
    types =
        value_unique (MeansList MeansEntry) (list_law entry_law) (codes "types") d v.types w.types
        p.types q.types i;
  };
  not_null = λ v p. no_object p.object;
}
