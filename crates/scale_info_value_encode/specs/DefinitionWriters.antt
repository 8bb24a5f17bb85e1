-- How a value is encoded by the definition of its type.
use Rattle.std.specs.Prelude.{ℕ, ◌∷◌, ◌^◌, ◌==◌, Bool, true, false, List, [], Option, Some, None}
use Rattle.std.specs.Prelude.{ℤ, map, length, replicate, find, if◌then◌else◌, nat_lt}
use Rattle.std.specs.Int.{Width, w8, w16, w32, w64, w128, byte_len, to_le_bytes, cast_unsigned}
use Rattle.std.specs.Option.{option_eq}
use Rattle.std.specs.Str.{is_utf8, bytes_eq}
use Rattle.scale_info_types.specs.Portable.{Text}
use Rattle.scale_info_types.specs.declared.ty.fields.Field.{Field}
use Rattle.scale_info_types.specs.declared.ty.variant.Variant.{Variant}
use Rattle.scale_info_types.specs.declared.ty.TypeDef.{TypeDef}
use Rattle.scale_info_types.specs.declared.ty.TypeDef.TheVariants as def
use Rattle.scale_info_primitives.specs.declared.primitive.TypeDefPrimitive.{TypeDefPrimitive}
use Rattle.scale_info_primitives.specs.declared.primitive.TypeDefPrimitive.TheVariants as kind
use Rattle.scale_info_value.specs.declared.value.Value.{Value, out-Value}
use Rattle.scale_info_value.specs.declared.value.Value.TheOpen.{Value-F}
use Rattle.scale_info_value.specs.declared.value.Value.TheOpen as layer
use Rattle.scale_info_value_encode.specs.Writers.{Writer, written, refused, mismatch, unsupported}
use Rattle.scale_info_value_encode.specs.Writers.{if_fits, followed_by, of_part, step_to, item, in_turn}
use Rattle.scale_info_value_encode.specs.IntegerWriters.{compact_below, count, is_signed_of}
use Rattle.scale_info_value_encode.specs.CompactTypes.{by_width, of_only_field, by_compact_type}

-- In a definition each reference stands for its writers: of a value one deeper than the value that
-- refers to it, of a value two deeper, and of a compact integer, which is no deeper.
pub record Writers : Type 0 where
  pub value : Writer Value
  pub inner : Writer Value
  pub compact : Writer Value

-- what a truth value holds
abbrev pub truth_in : Value-F Value → Option Bool
truth_in (layer.Bool b) = Some b
truth_in _ = None

-- what an integer of an unsigned type holds
abbrev pub unsigned_in : Value-F Value → Option ℕ
unsigned_in (layer.Unsigned n) = Some n
unsigned_in _ = None

-- what an integer of a signed type holds
abbrev pub signed_in : Value-F Value → Option ℤ
signed_in (layer.Signed n) = Some n
signed_in _ = None

-- what a text holds
abbrev pub text_in : Value-F Value → Option Text
text_in (layer.Text t) = Some t
text_in _ = None

-- what a list holds
abbrev pub list_in : Value-F Value → Option (List Value)
list_in (layer.List values) = Some values
list_in _ = None

-- what a record holds
abbrev pub record_in : Value-F Value → Option (List (Option Text × Value))
record_in (layer.Record values) = Some values
record_in _ = None

-- what a variant holds: its name, its index and its fields
abbrev pub variant_in : Value-F Value → Option (Text × ℕ × List (Option Text × Value))
variant_in (layer.Variant name index values) = Some (name, index, values)
variant_in _ = None

-- by what was found; where nothing was, the value is none of the type
abbrev pub if_found : {A : Type 0} → Writer A → Writer (Option A)
if_found write None = refused mismatch
if_found write (Some found) = write found

-- a value of one kind, by what it holds
abbrev pub held : {A : Type 0} → (Value-F Value → Option A) → Writer A → Writer Value
held kind write value = if_found write (kind (out-Value value))

-- 0 or 1
abbrev pub truth : Writer Bool
truth false = written (0 ∷ [])
truth true = written (1 ∷ [])

-- little-endian in its width
abbrev pub unsigned : Width → Writer ℕ
unsigned w n = if_fits (nat_lt n (256 ^ byte_len w)) (to_le_bytes w n)

-- two's complement, little-endian in its width
abbrev pub signed : Width → Writer ℤ
signed w n = if_fits (is_signed_of w n) (to_le_bytes w (cast_unsigned w n))

-- a count of bytes, and then these, which are UTF-8
abbrev pub text : Writer Text
text t = followed_by (count (length t)) (if_fits (is_utf8 t) t)

-- a value of a primitive
abbrev pub primitive : TypeDefPrimitive → Writer Value
primitive kind.Bool value = held truth_in truth value
primitive kind.Char value = refused unsupported
primitive kind.Str value = held text_in text value
primitive kind.U8 value = held unsigned_in (unsigned w8) value
primitive kind.U16 value = held unsigned_in (unsigned w16) value
primitive kind.U32 value = held unsigned_in (unsigned w32) value
primitive kind.U64 value = held unsigned_in (unsigned w64) value
primitive kind.U128 value = held unsigned_in (unsigned w128) value
primitive kind.U256 value = refused unsupported
primitive kind.I8 value = held signed_in (signed w8) value
primitive kind.I16 value = held signed_in (signed w16) value
primitive kind.I32 value = held signed_in (signed w32) value
primitive kind.I64 value = held signed_in (signed w64) value
primitive kind.I128 value = held signed_in (signed w128) value
primitive kind.I256 value = refused unsupported

-- so many values of one type
abbrev pub items : ℕ → Writers → Writer (List Value)
items n part values = in_turn 0 (replicate n (item part.value)) values

-- a value of each type in order
abbrev pub members : List Writers → Writer (List Value)
members parts values = in_turn 0 (map (λ part. item part.value) parts) values

-- the value of a field at its place, under the field's name; the value's own name leads to it
abbrev pub field : {F : Type 0} → Field F Writers Text → ℕ → Writer (Option Text × Value)
field f place named =
    of_part (step_to place named.0)
    (if option_eq bytes_eq f.name named.0 then f.ty.value named.1 else refused mismatch)

-- the fields in order
abbrev pub fields :
    {F : Type 0} → List (Field F Writers Text) → Writer (List (Option Text × Value))
fields all values = in_turn 0 (map field all) values

-- the fields of the variant, which is to have this name
abbrev pub fields_of :
    {F : Type 0} → Option (Variant F Writers Text) → Text → Writer (List (Option Text × Value))
fields_of None name values = refused mismatch
fields_of (Some v) name values =
    if bytes_eq v.name name then fields v.fields values else refused mismatch

-- an index byte, and then the fields of the first variant with that index
abbrev pub chosen_variant :
    {F : Type 0} → List (Variant F Writers Text) → Writer (Text × ℕ × List (Option Text × Value))
chosen_variant all chosen =
    followed_by (written (chosen.1 ∷ []))
    (fields_of (find (λ v. v.index == chosen.1) all) chosen.0 chosen.2)

-- a key and a value, two deeper than the map
abbrev pub pair : Writers → Writers → Writer Value
pair key value entry = held list_in (in_turn 0 (item key.inner ∷ item value.inner ∷ [])) entry

-- so many pairs
abbrev pub pairs : ℕ → Writers → Writers → Writer (List Value)
pairs n key value entries = in_turn 0 (replicate n (item (pair key value))) entries

-- how many they are, and then they
abbrev pub counted : (ℕ → Writer (List Value)) → Writer (List Value)
counted write values = followed_by (count (length values)) (write (length values) values)

-- a value of each kind of definition
abbrev pub value_by : {F : Type 0} → TypeDef F Writers Text → Writer Value
value_by (def.Composite d) value = held record_in (fields d.fields) value
value_by (def.Variant d) value = held variant_in (chosen_variant d.variants) value
value_by (def.Sequence d) value = held list_in (counted (λ n. items n d.type_param)) value
value_by (def.Array d) value = held list_in (items d.len d.type_param) value
value_by (def.Tuple d) value = held list_in (members d.fields) value
value_by (def.Primitive p) value = primitive p value
value_by (def.Compact d) value = d.type_param.compact value
value_by (def.BitSequence d) value = refused unsupported
value_by (def.Map d) value = held list_in (counted (λ n. pairs n d.key d.value)) value

-- nothing is written of a type whose values are not encoded
abbrev pub unsupported_type : Writer Value
unsupported_type value = refused unsupported

-- a compact integer that fits the width of the primitive
abbrev pub compact_primitive : TypeDefPrimitive → Writer Value
compact_primitive p value =
    by_width unsupported_type (λ limit. held unsigned_in (compact_below limit)) p value

-- a composite of exactly one field stands for that field
abbrev pub compact_field : {F : Type 0} → List (Field F (Writer Value) Text) → Writer Value
compact_field all value = of_only_field unsupported_type all value

-- a compact integer of the type, where each reference stands for the compact integers of its type,
-- one deeper
abbrev pub compact_by : {F : Type 0} → TypeDef F (Writer Value) Text → Writer Value
compact_by d value = by_compact_type unsupported_type compact_primitive d value
