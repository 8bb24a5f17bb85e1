-- Values that JSON texts give, and their encodings.
use Rattle.std.specs.Prelude.{◌≡◌, ◌⊎◌, ◌++◌, ℕ, IsUtf8, List, Some, codes}
use Rattle.hex.specs.Hex.{encode_lower}
use Rattle.serde_json.specs.Data.{Data}
use Rattle.serde_json.specs.Read.{read as read_text}
use Rattle.scale_info_value_encode.specs.Writers.{written}
use Rattle.scale_info_value_encode.specs.Writings.{writing}
use Rattle.scale_info_table.specs.declared.portable.PortableRegistry.{PortableRegistry}
use Rattle.scale_info_value.specs.declared.value.Value.{Value}
use Rattle.scale_info_value_json.specs.Takers.{Taken, taken, refused, no_such_type, unsupported}
use Rattle.scale_info_value_json.specs.Takers.{too_deep, mismatch}
use Rattle.scale_info_value_json.specs.Takings.{taking}
use Rattle.type_reader_io.specs.declared.error.LineError.{LineError}
use Rattle.type_reader_io.specs.declared.error.ValueFault.{ValueFault}
use Rattle.type_reader_io.specs.declared.error.ValueFault.TheVariants as faults
use Rattle.type_reader_lines.specs.LineErrors.{IfFault}

-- the bytes are JSON, of this tree; JSON is UTF-8
pub record IsJsonOf (tree : Data) (json : List ℕ) : Type 0 where
  pub text : IsUtf8 json
  pub read : read_text json ≡ Some tree

-- the JSON text gives a value of the type, and the line is its encoding in hexadecimal digits,
-- after `0x`, and a line feed
pub record IsEncodedLine (table : PortableRegistry) (id : ℕ) (json line : List ℕ) : Type 0 where
  pub tree : Data
  pub is_json : IsJsonOf tree json
  pub value : Value
  pub is_taken : taking table id 1 tree ≡ taken value
  pub bytes : List ℕ
  pub is_written : writing table id 1 value ≡ written bytes
  pub parts : line ≡ codes "0x" ++ encode_lower bytes ++ codes "\n"

-- why no value is taken, by what comes of it
abbrev pub IsTakingFault : Taken Value → ValueFault → Type 0
IsTakingFault outcome faults.NoSuchType = outcome ≡ refused no_such_type
IsTakingFault outcome faults.Unsupported = outcome ≡ refused unsupported
IsTakingFault outcome faults.TooDeep = outcome ≡ refused too_deep
IsTakingFault outcome faults.Mismatch = outcome ≡ refused mismatch
IsTakingFault outcome fault = ⊥

-- the same of an error; an allocation may fail
abbrev pub IsTakingError : Taken Value → LineError → Type 0
IsTakingError outcome error = IfFault (IsTakingFault outcome) error

-- the bytes are no JSON
abbrev pub IsNoJson : List ℕ → ValueFault → Type 0
IsNoJson json fault =
    (fault ≡ faults.NoJson) × ((tree : Data) → IsJsonOf tree json → ⊥)

-- why bytes have no tree; an allocation may fail
abbrev pub IsTreeError : List ℕ → LineError → Type 0
IsTreeError json error = IfFault (IsNoJson json) error

-- the text has a tree, from which no value of the type is taken, for this reason
pub record HasTakingFault (table : PortableRegistry) (id : ℕ) (json : List ℕ)
    (fault : ValueFault) : Type 0 where
  pub tree : Data
  pub is_json : IsJsonOf tree json
  pub cause : IsTakingFault (taking table id 1 tree) fault

-- why there is no line for the JSON text; an allocation may fail
abbrev pub IsEncodingError : PortableRegistry → ℕ → List ℕ → LineError → Type 0
IsEncodingError table id json error =
    IfFault (λ fault. IsNoJson json fault ⊎ HasTakingFault table id json fault) error
