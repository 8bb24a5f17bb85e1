-- How a value is taken from a tree by the definition of its type.
use Rattle.std.specs.Prelude.{ℕ, ◌∷◌, ◌^◌, ◌==◌, ◌&&◌, Bool, List, [], Option, Some, None}
use Rattle.std.specs.Prelude.{map, length, find, option_map, option_and_then, if◌then◌else◌, nat_lt}
use Rattle.std.specs.List.{count_by}
use Rattle.std.specs.Str.{bytes_eq, is_utf8}
use Rattle.serde_json.specs.Data.{Data}
use Rattle.serde_json.specs.Find.{as_bool}
use Rattle.scale_info_types.specs.Portable.{Text}
use Rattle.scale_info_types.specs.declared.ty.fields.Field.{Field}
use Rattle.scale_info_types.specs.declared.ty.variant.Variant.{Variant}
use Rattle.scale_info_types.specs.declared.ty.TypeDef.{TypeDef}
use Rattle.scale_info_types.specs.declared.ty.TypeDef.TheVariants as def
use Rattle.scale_info_primitives.specs.declared.primitive.TypeDefPrimitive.{TypeDefPrimitive}
use Rattle.scale_info_primitives.specs.declared.primitive.TypeDefPrimitive.TheVariants as kind
use Rattle.scale_info_value.specs.declared.value.Value.{Value}
use Rattle.scale_info_value.specs.declared.value.Value.TheVariants as Values
use Rattle.scale_info_value_encode.specs.CompactTypes.{by_width, of_only_field, by_compact_type}
use Rattle.scale_info_value_json.specs.Takers.{Taken, Taker, taken, refused, mismatch, unsupported}
use Rattle.scale_info_value_json.specs.Takers.{taken_map, if_found, all_taken, in_turn}
use Rattle.scale_info_value_json.specs.TreeParts.{natural_in, integer_in, below, within, text_in}
use Rattle.scale_info_value_json.specs.TreeParts.{items_in, list_in, is_object_of, has_members}
use Rattle.scale_info_value_json.specs.TreeParts.{member_in, variant_in, is_nothing}
use Rattle.scale_info_value_json.specs.TreeParts.{index_and_fields}

-- In a definition each reference stands for its takers: of a value one deeper than the value that
-- refers to it, of a value two deeper, and of a compact integer, which is no deeper; and for
-- whether its type is `u8`.
pub record Takers : Type 0 where
  pub value : Taker Value
  pub inner : Taker Value
  pub compact : Taker Value
  pub is_byte : Bool

-- nothing is taken of a type whose values are not taken
abbrev pub unsupported_type : Taker Value
unsupported_type tree = refused unsupported

-- a truth value
abbrev pub truth : Taker Value
truth tree = if_found (as_bool tree) (λ b. taken (Values.Bool b))

-- an integer of an unsigned type, which is below the limit
abbrev pub unsigned : ℕ → Taker Value
unsigned limit tree = if_found (below limit (natural_in tree)) (λ n. taken (Values.Unsigned n))

-- an integer of a signed type, which is within the limit
abbrev pub signed : ℕ → Taker Value
signed limit tree = if_found (within limit (integer_in tree)) (λ z. taken (Values.Signed z))

-- a text of these bytes, of which there are fewer than 2^32, and which are UTF-8
abbrev pub text_of : Text → Taken Value
text_of t =
    if nat_lt (length t) (2 ^ 32) && is_utf8 t then taken (Values.Text t) else refused mismatch

-- a text
abbrev pub text : Taker Value
text tree = if_found (text_in tree) text_of

-- a value of a primitive; an unsigned integer is one of its width
abbrev pub primitive : TypeDefPrimitive → Taker Value
primitive kind.Bool tree = truth tree
primitive kind.Str tree = text tree
primitive kind.I8 tree = signed (2 ^ 7) tree
primitive kind.I16 tree = signed (2 ^ 15) tree
primitive kind.I32 tree = signed (2 ^ 31) tree
primitive kind.I64 tree = signed (2 ^ 63) tree
primitive kind.I128 tree = signed (2 ^ 127) tree
primitive p tree = by_width unsupported_type unsigned p tree

-- the values of trees, by one taker
abbrev pub each : Taker Value → List Data → Taken (List Value)
each take trees = all_taken (map take trees)

-- the values of trees, if there are as many as the test asks for
abbrev pub counted : (ℕ → Bool) → Taker Value → List Data → Taken (List Value)
counted test take trees = if test (length trees) then each take trees else refused mismatch

-- a list of items of one type
abbrev pub items : (ℕ → Bool) → Takers → Taker Value
items test part tree =
    taken_map Values.List (if_found (list_in part.is_byte tree) (counted test part.value))

-- an array of a value of each type in order
abbrev pub members : List (Taker Value) → Taker Value
members takers tree = taken_map Values.List (if_found (items_in tree) (in_turn takers))

-- a field's value, under the field's name
abbrev pub field : {F : Type 0} → Field F Takers Text → Taker (Option Text × Value)
field f tree = taken_map (λ value. (f.name, value)) (f.ty.value tree)

-- a field's value, of the tree under the field's name
abbrev pub named_field : {F : Type 0} → Data → Field F Takers Text → Taken (Option Text × Value)
named_field tree f = if_found (member_in f.name tree) (field f)

-- the fields of an object, which has no other members
abbrev pub object_fields :
    {F : Type 0} → List (Field F Takers Text) → Taker (List (Option Text × Value))
object_fields all tree =
    if has_members (length all) tree then all_taken (map (named_field tree) all)
    else refused mismatch

-- the fields in order: an object, if each has a name of its own, and else an array
abbrev pub fields : {F : Type 0} → List (Field F Takers Text) → Taker (List (Option Text × Value))
fields all tree =
    if is_object_of (map (λ f. f.name) all) then object_fields all tree
    else if_found (items_in tree) (in_turn (map field all))

-- the fields of a variant, if it has any
abbrev pub variant_fields :
    {F : Type 0} → List (Field F Takers Text) → Option Data → Taken (List (Option Text × Value))
variant_fields [] content = if is_nothing content then taken [] else refused mismatch
variant_fields (f ∷ more) content = if_found content (fields (f ∷ more))

-- whether more than one of the variants has this name
abbrev pub is_shared : {F T : Type 0} → List (Variant F T Text) → Text → Bool
is_shared all name = nat_lt 1 (count_by (λ v. bytes_eq v.name name) all)

-- The index of the variant that is meant, and what stands for its fields. Under a name that
-- variants share stand both, and else the fields alone.
abbrev pub chosen :
    {F T : Type 0} → List (Variant F T Text) → Text → Option Data → Option (ℕ × Option Data)
chosen all name content =
    if is_shared all name then option_and_then index_and_fields content
    else option_map (λ v. (v.index, content)) (find (λ v. bytes_eq v.name name) all)

-- the variant with this index, which is to have this name
abbrev pub variant_of :
    {F : Type 0} → Text → ℕ → Option Data → Option (Variant F Takers Text) → Taken Value
variant_of name index content None = refused mismatch
variant_of name index content (Some v) =
    if bytes_eq v.name name
    then taken_map (λ values. Values.Variant v.name index values) (variant_fields v.fields content)
    else refused mismatch

-- a value of an enum: the first variant with the index that is meant
abbrev pub variant : {F : Type 0} → List (Variant F Takers Text) → Taker Value
variant all tree =
    if_found (variant_in tree) (λ named.
    if_found (chosen all named.0 named.1) (λ c.
    variant_of named.0 c.0 c.1 (find (λ v. v.index == c.0) all)))

-- whether so many items have a count
abbrev pub has_count : ℕ → Bool
has_count n = nat_lt n (2 ^ 32)

-- a key and a value, two deeper than the map
abbrev pub pair : Takers → Takers → Taker Value
pair key value tree = members (key.inner ∷ value.inner ∷ []) tree

-- a map: an array of its pairs
abbrev pub pairs : Takers → Takers → Taker Value
pairs key value tree =
    taken_map Values.List (if_found (items_in tree) (counted has_count (pair key value)))

-- a value of each kind of definition
abbrev pub value_by : {F : Type 0} → TypeDef F Takers Text → Taker Value
value_by (def.Composite d) tree = taken_map Values.Record (fields d.fields tree)
value_by (def.Variant d) tree = variant d.variants tree
value_by (def.Sequence d) tree = items has_count d.type_param tree
value_by (def.Array d) tree = items (λ n. n == d.len) d.type_param tree
value_by (def.Tuple d) tree = members (map (λ part. part.value) d.fields) tree
value_by (def.Primitive p) tree = primitive p tree
value_by (def.Compact d) tree = d.type_param.compact tree
value_by (def.BitSequence d) tree = refused unsupported
value_by (def.Map d) tree = pairs d.key d.value tree

-- a compact integer that fits the width of the primitive
abbrev pub compact_primitive : TypeDefPrimitive → Taker Value
compact_primitive p tree = by_width unsupported_type unsigned p tree

-- a composite of exactly one field stands for that field
abbrev pub compact_field : {F : Type 0} → List (Field F (Taker Value) Text) → Taker Value
compact_field all tree = of_only_field unsupported_type all tree

-- a compact integer of the type, where each reference stands for the compact integers of its type,
-- one deeper
abbrev pub compact_by : {F : Type 0} → TypeDef F (Taker Value) Text → Taker Value
compact_by d tree = by_compact_type unsupported_type compact_primitive d tree
