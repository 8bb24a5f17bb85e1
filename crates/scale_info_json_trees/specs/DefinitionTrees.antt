-- Definitions as trees.
use Rattle.std.specs.Prelude.{◌≡◌, ℕ, ◌^◌, List, [], ◌∷◌, Some, codes}
use Rattle.serde_json.specs.Data.{Data, number, unsigned, string, object, no_members, member}
use Rattle.scale_info_types.specs.Portable as portable
use Rattle.scale_info_types.specs.declared.ty.TypeDef.TheVariants as def
use Rattle.scale_info_primitives.specs.declared.primitive.TypeDefPrimitive.{TypeDefPrimitive}
use Rattle.scale_info_primitives.specs.Primitives.{primitive_name}
use Rattle.scale_info_json_trees.specs.PartTrees.{id_tree, MeansId, field_rows, MeansField}
use Rattle.scale_info_json_trees.specs.PartTrees.{variant_rows}
use Rattle.scale_info_json_trees.specs.PartTrees.{MeansVariant}
use Rattle.scale_info_json_trees.specs.Meaning.{MeansNumber, MeansList, IsObject, HasValue, HasList}
use Rattle.scale_info_json_trees.specs.Written.{Row, object_tree, list_tree, unless_empty}

-- ---- the parts of a definition: the keys of each and how they are written, and how they are read

-- a composite
abbrev pub composite_rows : portable.TypeDefComposite → List Row
composite_rows v = (codes "fields", unless_empty (λ f. object_tree (field_rows f)) v.fields) ∷ []

-- the tree means it
pub record MeansComposite (d : Data) (v : portable.TypeDefComposite) : Type 0 where
  pub object : IsObject d
  pub fields : HasList (codes "fields") MeansField d v.fields

-- an enum
abbrev pub variant_type_rows : portable.TypeDefVariant → List Row
variant_type_rows v =
    (codes "variants", unless_empty (λ c. object_tree (variant_rows c)) v.variants)
    ∷ []

-- the tree means it
pub record MeansVariantType (d : Data) (v : portable.TypeDefVariant) : Type 0 where
  pub object : IsObject d
  pub variants : HasList (codes "variants") MeansVariant d v.variants

-- a sequence
abbrev pub sequence_rows : portable.TypeDefSequence → List Row
sequence_rows v = (codes "type", Some (id_tree v.type_param)) ∷ []

-- the tree means it
pub record MeansSequence (d : Data) (v : portable.TypeDefSequence) : Type 0 where
  pub object : IsObject d
  pub type_param : HasValue (codes "type") MeansId d v.type_param

-- an array
abbrev pub array_rows : portable.TypeDefArray → List Row
array_rows v =
    (codes "len", Some (number (unsigned v.len)))
    ∷ (codes "type", Some (id_tree v.type_param))
    ∷ []

-- the tree means it
pub record MeansArray (d : Data) (v : portable.TypeDefArray) : Type 0 where
  pub object : IsObject d
  pub len : HasValue (codes "len") (MeansNumber (2 ^ 32)) d v.len
  pub type_param : HasValue (codes "type") MeansId d v.type_param

-- a compact integer
abbrev pub compact_rows : portable.TypeDefCompact → List Row
compact_rows v = (codes "type", Some (id_tree v.type_param)) ∷ []

-- the tree means it
pub record MeansCompact (d : Data) (v : portable.TypeDefCompact) : Type 0 where
  pub object : IsObject d
  pub type_param : HasValue (codes "type") MeansId d v.type_param

-- a bit sequence
abbrev pub bit_sequence_rows : portable.TypeDefBitSequence → List Row
bit_sequence_rows v =
    (codes "bit_order_type", Some (id_tree v.bit_order_type))
    ∷ (codes "bit_store_type", Some (id_tree v.bit_store_type))
    ∷ []

-- the tree means it
pub record MeansBitSequence (d : Data) (v : portable.TypeDefBitSequence) : Type 0 where
  pub object : IsObject d
  pub bit_order_type : HasValue (codes "bit_order_type") MeansId d v.bit_order_type
  pub bit_store_type : HasValue (codes "bit_store_type") MeansId d v.bit_store_type

-- a map
abbrev pub map_rows : portable.TypeDefMap → List Row
map_rows v =
    (codes "key", Some (id_tree v.key))
    ∷ (codes "value", Some (id_tree v.value))
    ∷ []

-- the tree means it
pub record MeansMap (d : Data) (v : portable.TypeDefMap) : Type 0 where
  pub object : IsObject d
  pub key : HasValue (codes "key") MeansId d v.key
  pub value : HasValue (codes "value") MeansId d v.value

-- ---- primitives

-- a primitive is its name
abbrev pub primitive_tree : TypeDefPrimitive → Data
primitive_tree v = string (primitive_name v)

-- the tree is the name
pub record MeansPrimitive (d : Data) (v : TypeDefPrimitive) : Type 0 where
  pub is : d ≡ string (primitive_name v)

-- ---- a definition is an object with one key

-- the key of each kind and its tree
abbrev pub definition_row : portable.TypeDef → Row
definition_row (def.Composite d) = (codes "composite", Some (object_tree (composite_rows d)))
definition_row (def.Variant d) = (codes "variant", Some (object_tree (variant_type_rows d)))
definition_row (def.Sequence d) = (codes "sequence", Some (object_tree (sequence_rows d)))
definition_row (def.Array d) = (codes "array", Some (object_tree (array_rows d)))
definition_row (def.Tuple d) = (codes "tuple", Some (list_tree id_tree d.fields))
definition_row (def.Primitive p) = (codes "primitive", Some (primitive_tree p))
definition_row (def.Compact d) = (codes "compact", Some (object_tree (compact_rows d)))
definition_row (def.BitSequence d) = (codes "bitsequence", Some (object_tree (bit_sequence_rows d)))
definition_row (def.Map d) = (codes "map", Some (object_tree (map_rows d)))

-- the one key
abbrev pub type_def_rows : portable.TypeDef → List Row
type_def_rows v = definition_row v ∷ []

-- the tree is an object with this one key
abbrev pub HasOnly : Data → List ℕ → Data → Type 0
HasOnly d key tree = d ≡ object (member key tree no_members)

-- the key and its tree mean the definition
pub data MeansUnder : List ℕ → Data → portable.TypeDef → Type 0 where
  composite : {t : Data} {d : portable.TypeDefComposite} → MeansComposite t d
      → MeansUnder (codes "composite") t (def.Composite d)
  variant : {t : Data} {d : portable.TypeDefVariant} → MeansVariantType t d
      → MeansUnder (codes "variant") t (def.Variant d)
  sequence : {t : Data} {d : portable.TypeDefSequence} → MeansSequence t d
      → MeansUnder (codes "sequence") t (def.Sequence d)
  array : {t : Data} {d : portable.TypeDefArray} → MeansArray t d
      → MeansUnder (codes "array") t (def.Array d)
  tuple : {t : Data} {d : portable.TypeDefTuple} → MeansList MeansId t d.fields
      → MeansUnder (codes "tuple") t (def.Tuple d)
  primitive : {t : Data} {p : TypeDefPrimitive} → MeansPrimitive t p
      → MeansUnder (codes "primitive") t (def.Primitive p)
  compact : {t : Data} {d : portable.TypeDefCompact} → MeansCompact t d
      → MeansUnder (codes "compact") t (def.Compact d)
  bit_sequence : {t : Data} {d : portable.TypeDefBitSequence} → MeansBitSequence t d
      → MeansUnder (codes "bitsequence") t (def.BitSequence d)
  map : {t : Data} {d : portable.TypeDefMap} → MeansMap t d
      → MeansUnder (codes "map") t (def.Map d)

-- the kinds, for a proof that picks one
pub ruleset definitions =
    (composite, variant, sequence, array, tuple, primitive, compact, bit_sequence, map)

-- the tree means the definition
pub record MeansTypeDef (d : Data) (v : portable.TypeDef) : Type 0 where
  pub key : List ℕ
  pub tree : Data
  pub only : HasOnly d key tree
  pub means : MeansUnder key tree v
