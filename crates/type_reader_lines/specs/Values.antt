-- Values that hexadecimal digits write, and their JSON text.
use Rattle.std.specs.Prelude.{◌≡◌, ◌⊎◌, ◌++◌, ℕ, List, Some, None, codes}
use Rattle.scale_info_hexadecimal.specs.Digits.{bytes_by_digits}
use Rattle.scale_info_table.specs.declared.portable.PortableRegistry.{PortableRegistry}
use Rattle.scale_info_value.specs.Outcomes.{Outcome, failed, no_such_type, unsupported, too_deep}
use Rattle.scale_info_value.specs.Outcomes.{malformed}
use Rattle.scale_info_value.specs.Readings.{reading}
use Rattle.scale_info_value.specs.declared.value.Value.{Value}
use Rattle.scale_info_value_text.specs.ValueTexts.{HasBytesLeft, IsTextOf}
use Rattle.type_reader_io.specs.declared.error.LineError.{LineError}
use Rattle.type_reader_io.specs.declared.error.ValueFault.{ValueFault}
use Rattle.type_reader_io.specs.declared.error.ValueFault.TheVariants as faults
use Rattle.type_reader_lines.specs.LineErrors.{IfFault}

-- the digits write one value of the type, with nothing after it, and the line is its JSON text and
-- a line feed
pub record IsValueLine (table : PortableRegistry) (id : ℕ) (digits line : List ℕ) : Type 0 where
  pub bytes : List ℕ
  pub written_by : bytes_by_digits digits ≡ Some bytes
  pub text : List ℕ
  pub is_text : IsTextOf table id (reading table id 1 bytes) text
  pub parts : line ≡ text ++ codes "\n"

-- why bytes are not one value, by what comes of decoding them
abbrev pub IsReadingFault : Outcome Value → ValueFault → Type 0
IsReadingFault outcome faults.NoSuchType = outcome ≡ failed no_such_type
IsReadingFault outcome faults.Unsupported = outcome ≡ failed unsupported
IsReadingFault outcome faults.TooDeep = outcome ≡ failed too_deep
IsReadingFault outcome faults.Malformed = outcome ≡ failed malformed
IsReadingFault outcome faults.TrailingBytes = HasBytesLeft outcome
IsReadingFault outcome fault = ⊥

-- the same of an error; an allocation may fail
abbrev pub IsReadingError : Outcome Value → LineError → Type 0
IsReadingError outcome error = IfFault (IsReadingFault outcome) error

-- the digits write bytes that are not one value of the type, for this reason
pub record HasReadingFault (table : PortableRegistry) (id : ℕ) (digits : List ℕ)
    (fault : ValueFault) : Type 0 where
  pub bytes : List ℕ
  pub written_by : bytes_by_digits digits ≡ Some bytes
  pub cause : IsReadingFault (reading table id 1 bytes) fault

-- the text is no even number of digits
abbrev pub IsNoDigits : List ℕ → ValueFault → Type 0
IsNoDigits digits fault = (fault ≡ faults.NoDigits) × (bytes_by_digits digits ≡ None)

-- why there is no line for the digits; an allocation may fail
abbrev pub IsValueError : PortableRegistry → ℕ → List ℕ → LineError → Type 0
IsValueError table id digits error =
    IfFault (λ fault. IsNoDigits digits fault ⊎ HasReadingFault table id digits fault) error
