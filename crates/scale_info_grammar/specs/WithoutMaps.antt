-- The grammar of descriptions without maps, as the crate `scale-info` has it. It differs from the
-- whole grammar in definitions alone: no index byte stands for a map.
use Rattle.std.specs.Prelude.{ℕ, List}
use Rattle.scale_info_types.specs.Portable as portable
use Rattle.scale_info_types.specs.declared.ty.PortableType.{PortableType}
use Rattle.scale_info_types.specs.declared.ty.TypeDef.TheVariants as def
use Rattle.scale_info_primitives.specs.declared.primitive.TypeDefPrimitive.{TypeDefPrimitive}
use Rattle.scale_info_grammar.specs.Ty.{
  EncodesDescriptionBy,
  EncodesEntryBy,
  EncodesField,
  EncodesId,
  EncodesPrimitive,
  EncodesVariant,
  array_parts,
  bit_sequence_parts,
}
use Rattle.scale_info_bytes.specs.Integers.{EncodesU32}
use Rattle.scale_info_bytes.specs.Parts.{HasIndex, EncodesList, EncodesPair}

-- the bytes are the parts of the definition with this index
pub data DefinitionAtWithoutMaps : ℕ → portable.TypeDef → List ℕ → Type 0 where
  composite :
      {d : portable.TypeDefComposite} {b : List ℕ}
      → EncodesList EncodesField d.fields b → DefinitionAtWithoutMaps 0 (def.Composite d) b
  variant :
      {d : portable.TypeDefVariant} {b : List ℕ}
      → EncodesList EncodesVariant d.variants b → DefinitionAtWithoutMaps 1 (def.Variant d) b
  sequence :
      {d : portable.TypeDefSequence} {b : List ℕ}
      → EncodesId d.type_param b → DefinitionAtWithoutMaps 2 (def.Sequence d) b
  array :
      {d : portable.TypeDefArray} {b : List ℕ}
      → EncodesPair EncodesU32 EncodesId (array_parts d) b
      → DefinitionAtWithoutMaps 3 (def.Array d) b
  tuple :
      {d : portable.TypeDefTuple} {b : List ℕ}
      → EncodesList EncodesId d.fields b → DefinitionAtWithoutMaps 4 (def.Tuple d) b
  primitive :
      {p : TypeDefPrimitive} {b : List ℕ}
      → EncodesPrimitive p b → DefinitionAtWithoutMaps 5 (def.Primitive p) b
  compact :
      {d : portable.TypeDefCompact} {b : List ℕ}
      → EncodesId d.type_param b → DefinitionAtWithoutMaps 6 (def.Compact d) b
  bit_sequence :
      {d : portable.TypeDefBitSequence} {b : List ℕ}
      → EncodesPair EncodesId EncodesId (bit_sequence_parts d) b
      → DefinitionAtWithoutMaps 7 (def.BitSequence d) b

-- a definition is its index byte and its parts
pub record EncodesTypeDefWithoutMaps (v : portable.TypeDef) (b : List ℕ) : Type 0 where
  pub index : ℕ
  pub indexed : HasIndex index (DefinitionAtWithoutMaps index v) b

-- a description is its path, its parameters, its definition and its docs
abbrev pub EncodesDescriptionWithoutMaps : portable.Description → List ℕ → Type 0
EncodesDescriptionWithoutMaps v b = EncodesDescriptionBy EncodesTypeDefWithoutMaps v b

-- an entry of a table is its id and its description
abbrev pub EncodesPortableTypeWithoutMaps : PortableType → List ℕ → Type 0
EncodesPortableTypeWithoutMaps v b = EncodesEntryBy EncodesDescriptionWithoutMaps v b
