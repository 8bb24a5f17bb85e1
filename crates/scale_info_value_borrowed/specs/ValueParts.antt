-- What is found in a value.
use Rattle.std.specs.Prelude.{ℕ, ℤ, Bool, false, List, [], Option, Some, None, option_map}
use Rattle.std.specs.Prelude.{option_and_then, slice_get, find}
use Rattle.std.specs.Borrow.{Bor}
use Rattle.std.specs.Str.{bytes_eq}
use Rattle.scale_info_types.specs.Portable.{Text}
use Rattle.scale_info_value.specs.declared.value.Value.{Value, out-Value}
use Rattle.scale_info_value.specs.declared.value.Value.TheOpen.{Value-F}
use Rattle.scale_info_value.specs.declared.value.Value.TheOpen as layer
use Rattle.scale_info_value.specs.declared.value.Value.TheVariants as Values
use Rattle.scale_info_value_borrowed.specs.declared.borrowed.ValueRef.{ValueRef}
use Rattle.scale_info_value_borrowed.specs.declared.borrowed.ValueRef.TheVariants as borrowed

-- the items, where the outermost part of a value is a list
abbrev pub items_at : Value-F Value → Option (List Value)
items_at (layer.List vs) = Some vs
items_at _ = None

-- the fields, where it is a record or a variant
abbrev pub fields_at : Value-F Value → List (Option Text × Value)
fields_at (layer.Record fields) = fields
fields_at (layer.Variant name index fields) = fields
fields_at _ = []

-- the name, where it is a variant
abbrev pub variant_at : Value-F Value → Option Text
variant_at (layer.Variant name index fields) = Some name
variant_at _ = None

-- a truth value
abbrev pub truth_in : Value → Option Bool
truth_in (Values.Bool b) = Some b
truth_in _ = None

-- an integer without a sign
abbrev pub unsigned_in : Value → Option ℕ
unsigned_in (Values.Unsigned n) = Some n
unsigned_in _ = None

-- an integer with a sign
abbrev pub signed_in : Value → Option ℤ
signed_in (Values.Signed n) = Some n
signed_in _ = None

-- a text
abbrev pub text_in : Value → Option Text
text_in (Values.Text t) = Some t
text_in _ = None

-- the items of a list
abbrev pub items_in : Value → Option (List Value)
items_in value = items_at (out-Value value)

-- the item of a list at an index
abbrev pub item_in : ℕ → Value → Option Value
item_in index value = option_and_then (λ vs. slice_get vs index) (items_in value)

-- whether a field has this name
abbrev pub has_name : {A : Type 0} → Text → Option Text × A → Bool
has_name name (None, value) = false
has_name name (Some own, value) = bytes_eq own name

-- the value of the first field with this name
abbrev pub value_under : Text → List (Option Text × Value) → Option Value
value_under name fields = option_map (λ f. f.1) (find (has_name name) fields)

-- the fields of a record or a variant
abbrev pub fields_in : Value → List (Option Text × Value)
fields_in value = fields_at (out-Value value)

-- the value of the first field with this name, of a record or a variant
abbrev pub field_in : Text → Value → Option Value
field_in name value = value_under name (fields_in value)

-- the name of a variant
abbrev pub variant_in : Value → Option Text
variant_in value = variant_at (out-Value value)

-- the bytes of a list that is kept as bytes
abbrev pub bytes_in : ValueRef → Option (Bor (List ℕ))
bytes_in (borrowed.Bytes b) = Some b
bytes_in _ = None
