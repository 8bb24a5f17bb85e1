-- Values by a table that is a whole input, as JSON text.
use Rattle.std.specs.Prelude.{◌≡◌, ℕ, List}
use Rattle.scale_info_grammar.specs.Ty.{EncodesTypes}
use Rattle.scale_info_types.specs.declared.ty.PortableType.{PortableType}
use Rattle.scale_info_value.specs.Outcomes.{Outcome, failed, malformed, no_such_type, too_deep}
use Rattle.scale_info_value.specs.Outcomes.{unsupported}
use Rattle.scale_info_value.specs.Readings.{reading}
use Rattle.scale_info_value.specs.declared.value.Value.{Value}
use Rattle.scale_info_value_text.specs.ValueTexts.{HasBytesLeft, IsTextOf}
use Rattle.scale_info_calls.specs.WholeTables.{IsTableRefusal}
use Rattle.scale_info_calls.specs.declared.error.CallError.{CallError}
use Rattle.scale_info_calls.specs.declared.error.CallError.TheVariants as errors

-- the input is one table, by which the bytes are one value of the type with this id, and this is the
-- JSON text of it
pub record IsValueText (input : List ℕ) (id : ℕ) (bytes text : List ℕ) : Type 0 where
  pub types : List PortableType
  pub encodes : EncodesTypes types input
  pub is_text :
      IsTextOf (record { types = types }) id (reading (record { types = types }) id 1 bytes) text

-- why bytes are not one value, by what comes of reading them; an allocation may fail
abbrev pub IsReadingRefusal : Outcome Value → (id : ℕ) → CallError → Type 0
IsReadingRefusal outcome id (errors.NoSuchType asked) =
    (asked ≡ id) × (outcome ≡ failed no_such_type)
IsReadingRefusal outcome id errors.Unsupported = outcome ≡ failed unsupported
IsReadingRefusal outcome id errors.TooDeep = outcome ≡ failed too_deep
IsReadingRefusal outcome id errors.MalformedValue = outcome ≡ failed malformed
IsReadingRefusal outcome id errors.TrailingValue = HasBytesLeft outcome
IsReadingRefusal outcome id errors.Memory = Unit {0}
IsReadingRefusal outcome id error = ⊥

-- the input is one table, by which the bytes are not one value of the type, for this reason
pub record HasNoValue (input : List ℕ) (id : ℕ) (bytes : List ℕ) (error : CallError)
    : Type 0 where
  pub types : List PortableType
  pub encodes : EncodesTypes types input
  pub cause : IsReadingRefusal (reading (record { types = types }) id 1 bytes) id error

-- why there is no JSON text of the bytes
abbrev pub IsValueRefusal : (input : List ℕ) → (id : ℕ) → (bytes : List ℕ) → CallError → Type 0
IsValueRefusal input id bytes errors.Malformed = IsTableRefusal input errors.Malformed
IsValueRefusal input id bytes errors.TrailingBytes = IsTableRefusal input errors.TrailingBytes
IsValueRefusal input id bytes errors.Memory = Unit {0}
IsValueRefusal input id bytes error = HasNoValue input id bytes error
