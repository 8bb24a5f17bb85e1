-- Values as JSON text.
use Rattle.std.specs.Prelude.{◌≡◌, ◌<◌, length, ℕ, ℤ, ◌^◌, ◌++◌, Bool, true, false, List, [], ◌∷◌, Option, Some, None}
use Rattle.std.specs.Prelude.{decimal, nat_lt, unsigned_abs, if◌then◌else◌, codes}
use Rattle.std.specs.Fmt.{signed_decimal}
use Rattle.std.specs.List.{flat_map}
use Rattle.hex.specs.Hex.{encode_lower}
use Rattle.json.specs.Token.{Token, begin_object, end_object, begin_array, end_array, key, string}
use Rattle.json.specs.Token.{number, boolean}
use Rattle.json.specs.Print.{print}
use Rattle.scale_info_types.specs.Portable.{Text}
use Rattle.scale_info_table.specs.declared.portable.PortableRegistry.{PortableRegistry}
use Rattle.scale_info_value.specs.Outcomes.{Outcome, decoded, error_of, IsErrorOf}
use Rattle.scale_info_value.specs.declared.value.ValueError.{ValueError}
use Rattle.scale_info_value.specs.declared.value.ValueError.TheVariants as error
use Rattle.scale_info_value.specs.declared.value.Value.{Value}
use Rattle.scale_info_value_text.specs.declared.value_text.ValueTextError.{ValueTextError}
use Rattle.scale_info_value_text.specs.declared.value_text.ValueTextError.TheVariants as text
use Rattle.scale_info_value_visit.specs.Events as event
use Rattle.scale_info_value_visit.specs.Events.{Event, events, all_named}
use Rattle.scale_info_value_visit.specs.declared.visitor.VisitError.{VisitError}
use Rattle.scale_info_value_visit.specs.declared.visitor.VisitError.TheVariants as visit

-- an integer of an unsigned type: a number up to 2^53 - 1, and its digits as a string above
abbrev pub unsigned_token : ℕ → Token
unsigned_token n = if nat_lt n (2 ^ 53) then number (decimal n) else string (decimal n)

-- one of a signed type: a number where it is below 2^53 without its sign, and else its digits as a
-- string
abbrev pub signed_token : ℤ → Token
signed_token z =
    if nat_lt (unsigned_abs z) (2 ^ 53) then number (signed_decimal z)
    else string (signed_decimal z)

-- bytes: `0x`, and two lower-case hexadecimal digits for each
abbrev pub bytes_token : List ℕ → Token
bytes_token bytes = string (codes "0x" ++ encode_lower bytes)

-- what begins fields with these names: an object, or an array, where one has no name
abbrev pub opening : List (Option Text) → Token
opening names = if all_named names then begin_object else begin_array

-- what ends them
abbrev pub closing : List (Option Text) → Token
closing names = if all_named names then end_object else end_array

-- what begins the fields of a variant, if it has any
abbrev pub fields_opening : List (Option Text) → List Token
fields_opening [] = []
fields_opening (n ∷ names) = opening (n ∷ names) ∷ []

-- what ends them
abbrev pub fields_closing : List (Option Text) → List Token
fields_closing [] = []
fields_closing (n ∷ names) = closing (n ∷ names) ∷ []

-- what begins a variant: without fields it is its name, and else an object with its name as the
-- key; where its name is shared, always an object, and under the key an array of its index and then
-- the fields
abbrev pub variant_opening : Bool → Text → ℕ → List (Option Text) → List Token
variant_opening true name index names =
    begin_object ∷ key name ∷ begin_array ∷ number (decimal index) ∷ fields_opening names
variant_opening false name index [] = string name ∷ []
variant_opening false name index (n ∷ names) =
    begin_object ∷ key name ∷ opening (n ∷ names) ∷ []

-- what ends it
abbrev pub variant_closing : Bool → List (Option Text) → List Token
variant_closing true names = fields_closing names ++ end_array ∷ end_object ∷ []
variant_closing false [] = []
variant_closing false (n ∷ names) = closing (n ∷ names) ∷ end_object ∷ []

-- what stands before the value of a field: its name, where the fields are an object
abbrev pub field_opening : Option Text → Bool → List Token
field_opening (Some name) true = key name ∷ []
field_opening (Some name) false = []
field_opening None named = []

-- the tokens of one step of going over a value
abbrev pub event_tokens : Event → List Token
event_tokens (event.truth b) = boolean b ∷ []
event_tokens (event.unsigned n) = unsigned_token n ∷ []
event_tokens (event.signed z) = signed_token z ∷ []
event_tokens (event.text t) = string t ∷ []
event_tokens (event.bytes b) = bytes_token b ∷ []
event_tokens (event.begin_list n) = begin_array ∷ []
event_tokens event.end_list = end_array ∷ []
event_tokens (event.begin_record names known) = opening names ∷ []
event_tokens (event.end_record names known) = closing names ∷ []
event_tokens (event.begin_variant name index names shared known) =
    variant_opening shared name index names
event_tokens (event.end_variant name index names shared known) = variant_closing shared names
event_tokens (event.field name named known) = field_opening name named

-- the tokens of a value of the type with this id
abbrev pub value_tokens : PortableRegistry → ℕ → Value → List Token
value_tokens table id value = flat_map event_tokens (events table id value)

-- its text
abbrev pub value_text : PortableRegistry → ℕ → Value → List ℕ
value_text table id value = print (value_tokens table id value)

-- the outcome is some value and this rest, and the value's text was appended
pub record AppendsText (table : PortableRegistry) (id : ℕ) (outcome : Outcome Value)
    (rest old new : List ℕ) : Type 0 where
  pub value : Value
  pub read : outcome ≡ decoded value rest
  pub appended : new ≡ old ++ value_text table id value

-- the outcome is some value with nothing left, and this is its text
pub record IsTextOf (table : PortableRegistry) (id : ℕ) (outcome : Outcome Value) (text : List ℕ) :
    Type 0 where
  pub value : Value
  pub read : outcome ≡ decoded value []
  pub same : text ≡ value_text table id value

-- the outcome is some value, and bytes are left
pub record HasBytesLeft (outcome : Outcome Value) : Type 0 where
  pub value : Value
  pub rest : List ℕ
  pub read : outcome ≡ decoded value rest
  pub left : 0 < length rest

-- the error is that of the outcome, or of bytes that are left
abbrev pub IsTextErrorOf : Outcome Value → ValueTextError → Type 0
IsTextErrorOf outcome (text.Value e) = IsErrorOf outcome e
IsTextErrorOf outcome text.Trailing = HasBytesLeft outcome

-- the error of a visit as that of decoding: a visitor that writes stops where an allocation failed
abbrev pub error_by : {E : Type 0} → VisitError E → ValueError
error_by (visit.Failed why) = error_of why
error_by (visit.Stopped e) = error.Memory
