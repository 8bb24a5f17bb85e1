-- How a value is decoded by the definition of its type.
use Rattle.std.specs.Prelude.{ℕ, ◌∷◌, ◌^◌, ◌==◌, true, false, List, [], Option, Some, None, map}
use Rattle.std.specs.Prelude.{replicate, find, if◌then◌else◌}
use Rattle.std.specs.Int.{Width, w8, w16, w32, w64, w128, byte_len, cast_signed}
use Rattle.std.specs.Str.{is_utf8}
use Rattle.scale_info_types.specs.Portable.{Text}
use Rattle.scale_info_types.specs.declared.ty.fields.Field.{Field}
use Rattle.scale_info_types.specs.declared.ty.variant.Variant.{Variant}
use Rattle.scale_info_types.specs.declared.ty.TypeDef.{TypeDef}
use Rattle.scale_info_types.specs.declared.ty.TypeDef.TheVariants as def
use Rattle.scale_info_primitives.specs.declared.primitive.TypeDefPrimitive.{TypeDefPrimitive}
use Rattle.scale_info_primitives.specs.declared.primitive.TypeDefPrimitive.TheVariants as kind
use Rattle.scale_info_value.specs.declared.value.Value.{Value}
use Rattle.scale_info_value.specs.declared.value.Value.TheVariants as Values
use Rattle.scale_info_value.specs.Outcomes.{Decoder, decoded, failed, malformed, unsupported}
use Rattle.scale_info_value.specs.Outcomes.{and_then, outcome_map, in_turn}
use Rattle.scale_info_value.specs.IntegerDecoders.{byte, bytes, integer, compact_below, count}

-- In a definition each reference stands for its decoders: of a value one deeper than the value that
-- refers to it, of a value two deeper, and of a compact integer, which is no deeper.
pub record Part : Type 0 where
  pub value : Decoder Value
  pub inner : Decoder Value
  pub compact : Decoder ℕ

-- a byte 0 or 1
abbrev pub truth : Decoder Value
truth input =
    and_then (byte input) (λ b rest.
    if b == 0 then decoded (Values.Bool false) rest
    else if b == 1 then decoded (Values.Bool true) rest
    else failed malformed)

-- little-endian in its width
abbrev pub unsigned : Width → Decoder Value
unsigned w input = outcome_map Values.Unsigned (integer (byte_len w) input)

-- two's complement, little-endian in its width
abbrev pub signed : Width → Decoder Value
signed w input = outcome_map (λ n. Values.Signed (cast_signed w n)) (integer (byte_len w) input)

-- a count of bytes, and then these, which are UTF-8
abbrev pub text : Decoder Value
text input =
    and_then (count input) (λ n rest. and_then (bytes n rest) (λ all after.
    if is_utf8 all then decoded (Values.Text all) after else failed malformed))

-- a value of a primitive
abbrev pub primitive : TypeDefPrimitive → Decoder Value
primitive kind.Bool input = truth input
primitive kind.Char input = failed unsupported
primitive kind.Str input = text input
primitive kind.U8 input = unsigned w8 input
primitive kind.U16 input = unsigned w16 input
primitive kind.U32 input = unsigned w32 input
primitive kind.U64 input = unsigned w64 input
primitive kind.U128 input = unsigned w128 input
primitive kind.U256 input = failed unsupported
primitive kind.I8 input = signed w8 input
primitive kind.I16 input = signed w16 input
primitive kind.I32 input = signed w32 input
primitive kind.I64 input = signed w64 input
primitive kind.I128 input = signed w128 input
primitive kind.I256 input = failed unsupported

-- so many values of one type
abbrev pub items : ℕ → Part → Decoder (List Value)
items n part input = in_turn (replicate n part.value) input

-- a value of each type in order
abbrev pub members : List Part → Decoder (List Value)
members parts input = in_turn (map (λ part. part.value) parts) input

-- a field's value, under the field's name
abbrev pub field : {F : Type 0} → Field F Part Text → Decoder (Option Text × Value)
field f input = outcome_map (λ value. (f.name, value)) (f.ty.value input)

-- the fields in order
abbrev pub fields : {F : Type 0} → List (Field F Part Text) → Decoder (List (Option Text × Value))
fields all input = in_turn (map field all) input

-- the fields of a variant, under its name; no variant has a byte that is no index
abbrev pub fields_of : {F : Type 0} → ℕ → Option (Variant F Part Text) → Decoder Value
fields_of index None input = failed malformed
fields_of index (Some v) input =
    outcome_map (λ values. Values.Variant v.name index values) (fields v.fields input)

-- an index byte, and then the fields of the first variant with that index
abbrev pub chosen_variant : {F : Type 0} → List (Variant F Part Text) → Decoder Value
chosen_variant all input =
    and_then (byte input) (λ index rest. fields_of index (find (λ v. v.index == index) all) rest)

-- A key and a value. The pair is one deeper than the map, and both are one deeper than the pair:
-- where the pair is too deep, so is its key, which comes first.
abbrev pub pair : Part → Part → Decoder Value
pair key value input = outcome_map Values.List (in_turn (key.inner ∷ value.inner ∷ []) input)

-- so many pairs
abbrev pub pairs : ℕ → Part → Part → Decoder (List Value)
pairs n key value input = in_turn (replicate n (pair key value)) input

-- a count, and then so many
abbrev pub counted : (ℕ → Decoder (List Value)) → Decoder (List Value)
counted values input = and_then (count input) values

-- a value of each kind of definition
abbrev pub value_by : {F : Type 0} → TypeDef F Part Text → Decoder Value
value_by (def.Composite d) input = outcome_map Values.Record (fields d.fields input)
value_by (def.Variant d) input = chosen_variant d.variants input
value_by (def.Sequence d) input =
    outcome_map Values.List (counted (λ n rest. items n d.type_param rest) input)
value_by (def.Array d) input = outcome_map Values.List (items d.len d.type_param input)
value_by (def.Tuple d) input = outcome_map Values.List (members d.fields input)
value_by (def.Primitive p) input = primitive p input
value_by (def.Compact d) input = outcome_map Values.Unsigned (d.type_param.compact input)
value_by (def.BitSequence d) input = failed unsupported
value_by (def.Map d) input =
    outcome_map Values.List (counted (λ n rest. pairs n d.key d.value rest) input)

-- a compact integer that fits the width of the primitive
abbrev pub compact_primitive : TypeDefPrimitive → Decoder ℕ
compact_primitive kind.U8 input = compact_below (2 ^ 8) input
compact_primitive kind.U16 input = compact_below (2 ^ 16) input
compact_primitive kind.U32 input = compact_below (2 ^ 32) input
compact_primitive kind.U64 input = compact_below (2 ^ 64) input
compact_primitive kind.U128 input = compact_below (2 ^ 128) input
compact_primitive _ input = failed unsupported

-- a composite of exactly one field stands for that field
abbrev pub compact_field : {F : Type 0} → List (Field F (Decoder ℕ) Text) → Decoder ℕ
compact_field [] input = failed unsupported
compact_field (f ∷ []) input = f.ty input
compact_field (f ∷ g ∷ more) input = failed unsupported

-- a compact integer of the type, where each reference stands for the compact integers of its type,
-- one deeper
abbrev pub compact_by : {F : Type 0} → TypeDef F (Decoder ℕ) Text → Decoder ℕ
compact_by (def.Composite d) input = compact_field d.fields input
compact_by (def.Primitive p) input = compact_primitive p input
compact_by _ input = failed unsupported
