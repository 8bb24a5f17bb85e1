-- Encodings of descriptions.
use Rattle.std.specs.Prelude.{◌≡◌, ℕ, List, [], ◌∷◌, Option}
use Rattle.scale_info_types.specs.Portable as portable
use Rattle.scale_info_types.specs.Portable.{Id, Text}
use Rattle.scale_info_type_ids.specs.declared.impls.Compact.{Compact}
use Rattle.scale_info_types.specs.declared.ty.PortableType.{PortableType}
use Rattle.scale_info_types.specs.declared.ty.TypeDef.TheVariants as def
use Rattle.scale_info_primitives.specs.declared.primitive.TypeDefPrimitive.{TypeDefPrimitive}
use Rattle.scale_info_primitives.specs.declared.primitive.TypeDefPrimitive.TheVariants as kind
use Rattle.scale_info_bytes.specs.Integers.{EncodesU8, EncodesU32, EncodesCompact}
use Rattle.scale_info_bytes.specs.Parts.{HasIndex, EncodesPair, EncodesOption, EncodesList}
use Rattle.scale_info_bytes.specs.Strings.{EncodesText}

-- the bytes encode the id of a type: its number as a compact integer
abbrev pub EncodesId : Id → List ℕ → Type 0
EncodesId v b = EncodesCompact v.id b

-- the bytes encode a list of strings
abbrev pub EncodesTexts : List Text → List ℕ → Type 0
EncodesTexts v b = EncodesList EncodesText v b

-- ---- a struct is its fields in order

-- the bytes encode a path: the list of its segments
abbrev pub EncodesPath : portable.Path → List ℕ → Type 0
EncodesPath v b = EncodesTexts v.segments b

-- the parts of a parameter, in the order in which they are encoded
abbrev pub parameter_parts : portable.TypeParameter → Text × Option Id
parameter_parts v = (v.name, v.ty)

-- the bytes encode a parameter: its name, and then the id of its type or None
abbrev pub EncodesParameter : portable.TypeParameter → List ℕ → Type 0
EncodesParameter v b = EncodesPair EncodesText (EncodesOption EncodesId) (parameter_parts v) b

-- the parts of a field, in the order in which they are encoded
abbrev pub field_parts : portable.Field → Option Text × (Id × (Option Text × List Text))
field_parts v = (v.name, (v.ty, (v.type_name, v.docs)))

-- the bytes encode a field: its name, the id of its type, its type name and its docs
abbrev pub EncodesField : portable.Field → List ℕ → Type 0
EncodesField v b =
    EncodesPair (EncodesOption EncodesText)
    (EncodesPair EncodesId (EncodesPair (EncodesOption EncodesText) (EncodesList EncodesText)))
    (field_parts v) b

-- the parts of a variant, in the order in which they are encoded
abbrev pub variant_parts : portable.Variant → Text × (List portable.Field × (ℕ × List Text))
variant_parts v = (v.name, (v.fields, (v.index, v.docs)))

-- the bytes encode a variant: its name, its fields, its index in one byte and its docs
abbrev pub EncodesVariant : portable.Variant → List ℕ → Type 0
EncodesVariant v b =
    EncodesPair EncodesText
    (EncodesPair (EncodesList EncodesField) (EncodesPair EncodesU8 (EncodesList EncodesText)))
    (variant_parts v) b

-- the parts of an array, in the order in which they are encoded
abbrev pub array_parts : portable.TypeDefArray → ℕ × Id
array_parts v = (v.len, v.type_param)

-- the parts of a bit sequence, in the order in which they are encoded
abbrev pub bit_sequence_parts : portable.TypeDefBitSequence → Id × Id
bit_sequence_parts v = (v.bit_store_type, v.bit_order_type)

-- the parts of a map, in the order in which they are encoded
abbrev pub map_parts : portable.TypeDefMap → Id × Id
map_parts v = (v.key, v.value)

-- the bytes encode a composite: the list of its fields
abbrev pub EncodesComposite : portable.TypeDefComposite → List ℕ → Type 0
EncodesComposite d b = EncodesList EncodesField d.fields b

-- the bytes encode an enum: the list of its variants
abbrev pub EncodesVariants : portable.TypeDefVariant → List ℕ → Type 0
EncodesVariants d b = EncodesList EncodesVariant d.variants b

-- the bytes encode a sequence: the id of its element
abbrev pub EncodesSequence : portable.TypeDefSequence → List ℕ → Type 0
EncodesSequence d b = EncodesId d.type_param b

-- the bytes encode an array: its length in four bytes, and the id of its element
abbrev pub EncodesArray : portable.TypeDefArray → List ℕ → Type 0
EncodesArray d b = EncodesPair EncodesU32 EncodesId (array_parts d) b

-- the bytes encode a tuple: the list of its members' ids
abbrev pub EncodesTuple : portable.TypeDefTuple → List ℕ → Type 0
EncodesTuple d b = EncodesList EncodesId d.fields b

-- the bytes encode a compact integer: the id of its type
abbrev pub EncodesCompactType : portable.TypeDefCompact → List ℕ → Type 0
EncodesCompactType d b = EncodesId d.type_param b

-- the bytes encode a bit sequence: the ids of its store and of its order
abbrev pub EncodesBitSequence : portable.TypeDefBitSequence → List ℕ → Type 0
EncodesBitSequence d b = EncodesPair EncodesId EncodesId (bit_sequence_parts d) b

-- the bytes encode a map: the ids of its key and of its value
abbrev pub EncodesMap : portable.TypeDefMap → List ℕ → Type 0
EncodesMap d b = EncodesPair EncodesId EncodesId (map_parts d) b

-- ---- a primitive is one byte

-- the byte of each primitive
pub data IsPrimitiveByte : ℕ → TypeDefPrimitive → Type 0 where
  bool : IsPrimitiveByte 0 kind.Bool
  char : IsPrimitiveByte 1 kind.Char
  str : IsPrimitiveByte 2 kind.Str
  u8 : IsPrimitiveByte 3 kind.U8
  u16 : IsPrimitiveByte 4 kind.U16
  u32 : IsPrimitiveByte 5 kind.U32
  u64 : IsPrimitiveByte 6 kind.U64
  u128 : IsPrimitiveByte 7 kind.U128
  u256 : IsPrimitiveByte 8 kind.U256
  i8 : IsPrimitiveByte 9 kind.I8
  i16 : IsPrimitiveByte 10 kind.I16
  i32 : IsPrimitiveByte 11 kind.I32
  i64 : IsPrimitiveByte 12 kind.I64
  i128 : IsPrimitiveByte 13 kind.I128
  i256 : IsPrimitiveByte 14 kind.I256

pub ruleset primitive_bytes =
    (bool, char, str, u8, u16, u32, u64, u128, u256, i8, i16, i32, i64, i128, i256)

-- the bytes encode a primitive: the one byte of it
pub record EncodesPrimitive (v : TypeDefPrimitive) (b : List ℕ) : Type 0 where
  pub byte : ℕ
  pub stands_for : IsPrimitiveByte byte v
  pub is : b ≡ byte ∷ []

-- ---- a definition is its index byte and its parts

-- with this index before them, the bytes encode a definition
pub data EncodesTypeDefWithIndex : ℕ → portable.TypeDef → List ℕ → Type 0 where
  composite :
      {d : portable.TypeDefComposite} {b : List ℕ} → EncodesList EncodesField d.fields b
      → EncodesTypeDefWithIndex 0 (def.Composite d) b
  variant :
      {d : portable.TypeDefVariant} {b : List ℕ} → EncodesList EncodesVariant d.variants b
      → EncodesTypeDefWithIndex 1 (def.Variant d) b
  sequence :
      {d : portable.TypeDefSequence} {b : List ℕ} → EncodesId d.type_param b
      → EncodesTypeDefWithIndex 2 (def.Sequence d) b
  array :
      {d : portable.TypeDefArray} {b : List ℕ} → EncodesPair EncodesU32 EncodesId (array_parts d) b
      → EncodesTypeDefWithIndex 3 (def.Array d) b
  tuple :
      {d : portable.TypeDefTuple} {b : List ℕ} → EncodesList EncodesId d.fields b
      → EncodesTypeDefWithIndex 4 (def.Tuple d) b
  primitive :
      {p : TypeDefPrimitive} {b : List ℕ} → EncodesPrimitive p b
      → EncodesTypeDefWithIndex 5 (def.Primitive p) b
  compact :
      {d : portable.TypeDefCompact} {b : List ℕ} → EncodesId d.type_param b
      → EncodesTypeDefWithIndex 6 (def.Compact d) b
  bit_sequence :
      {d : portable.TypeDefBitSequence} {b : List ℕ}
      → EncodesPair EncodesId EncodesId (bit_sequence_parts d) b
      → EncodesTypeDefWithIndex 7 (def.BitSequence d) b
  map :
      {d : portable.TypeDefMap} {b : List ℕ} → EncodesPair EncodesId EncodesId (map_parts d) b
      → EncodesTypeDefWithIndex 8 (def.Map d) b

-- the bytes encode a definition: an index byte, and then what that index announces
pub record EncodesTypeDef (v : portable.TypeDef) (b : List ℕ) : Type 0 where
  pub index : ℕ
  pub indexed : HasIndex index (EncodesTypeDefWithIndex index v) b

-- ---- a description, and a table of them

-- the parts of a description, in the order in which they are encoded
abbrev pub description_parts :
    portable.Description
    → portable.Path × (List portable.TypeParameter × (portable.TypeDef × List Text))
description_parts v = (v.path, (v.type_params, (v.type_def, v.docs)))

-- the bytes encode a description: its path, its parameters, its definition, which D encodes, and
-- its docs
abbrev pub EncodesDescriptionBy :
    (portable.TypeDef → List ℕ → Type 0) → portable.Description → List ℕ → Type 0
EncodesDescriptionBy D v b =
    EncodesPair EncodesPath
    (EncodesPair (EncodesList EncodesParameter) (EncodesPair D (EncodesList EncodesText)))
    (description_parts v) b

-- the bytes encode a description: its path, parameters, definition and docs
abbrev pub EncodesDescription : portable.Description → List ℕ → Type 0
EncodesDescription v b = EncodesDescriptionBy EncodesTypeDef v b

-- the parts of an entry of a table, in the order in which they are encoded
abbrev pub portable_type_parts : PortableType → Compact ℕ × portable.Description
portable_type_parts v = (record { 0 = v.id }, v.ty)

-- the bytes encode an entry of a table: its id as a compact integer, and its description, which D
-- encodes
abbrev pub EncodesEntryBy :
    (portable.Description → List ℕ → Type 0) → PortableType → List ℕ → Type 0
EncodesEntryBy D v b = EncodesPair (λ n t. EncodesCompact n.0 t) D (portable_type_parts v) b

-- the bytes encode an entry of a table: its id as a compact integer, its description
abbrev pub EncodesPortableType : PortableType → List ℕ → Type 0
EncodesPortableType v b = EncodesEntryBy EncodesDescription v b

-- the bytes encode a table as the list of its entries
abbrev pub EncodesTypes : List PortableType → List ℕ → Type 0
EncodesTypes types b = EncodesList EncodesPortableType types b
