-- Values that JSON texts give by a table that is a whole input, and their encodings.
use Rattle.std.specs.Prelude.{◌≡◌, ℕ, IsUtf8, List, Some}
use Rattle.serde_json.specs.Data.{Data}
use Rattle.serde_json.specs.Read.{read as read_text}
use Rattle.scale_info_value_encode.specs.Writers.{written}
use Rattle.scale_info_value_encode.specs.Writings.{writing}
use Rattle.scale_info_grammar.specs.Ty.{EncodesTypes}
use Rattle.scale_info_types.specs.declared.ty.PortableType.{PortableType}
use Rattle.scale_info_value.specs.declared.value.Value.{Value}
use Rattle.scale_info_value_json.specs.Takers.{Taken, mismatch, no_such_type, refused, taken}
use Rattle.scale_info_value_json.specs.Takers.{too_deep, unsupported}
use Rattle.scale_info_value_json.specs.Takings.{taking}
use Rattle.scale_info_calls.specs.WholeTables.{IsTableRefusal}
use Rattle.scale_info_calls.specs.declared.error.CallError.{CallError}
use Rattle.scale_info_calls.specs.declared.error.CallError.TheVariants as errors

-- the bytes are JSON, of this tree; JSON is UTF-8
pub record IsJson (tree : Data) (json : List ℕ) : Type 0 where
  pub text : IsUtf8 json
  pub read : read_text json ≡ Some tree

-- why bytes have no tree: they are no JSON; or an allocation failed
abbrev pub IsTreeRefusal : List ℕ → CallError → Type 0
IsTreeRefusal json errors.NoJson = (tree : Data) → IsJson tree json → ⊥
IsTreeRefusal json errors.Memory = Unit {0}
IsTreeRefusal json error = ⊥

-- the input is one table, by which the JSON text gives a value of the type with this id, and these
-- bytes are its encoding
pub record IsEncoded (input : List ℕ) (id : ℕ) (json bytes : List ℕ) : Type 0 where
  pub types : List PortableType
  pub encodes : EncodesTypes types input
  pub tree : Data
  pub is_json : IsJson tree json
  pub value : Value
  pub is_taken : taking (record { types = types }) id 1 tree ≡ taken value
  pub is_written : writing (record { types = types }) id 1 value ≡ written bytes

-- why no value is taken, by what comes of it; an allocation may fail
abbrev pub IsTakingRefusal : Taken Value → (id : ℕ) → CallError → Type 0
IsTakingRefusal outcome id (errors.NoSuchType asked) =
    (asked ≡ id) × (outcome ≡ refused no_such_type)
IsTakingRefusal outcome id errors.Unsupported = outcome ≡ refused unsupported
IsTakingRefusal outcome id errors.TooDeep = outcome ≡ refused too_deep
IsTakingRefusal outcome id errors.Mismatch = outcome ≡ refused mismatch
IsTakingRefusal outcome id errors.Memory = Unit {0}
IsTakingRefusal outcome id error = ⊥

-- the input is one table, by which the JSON text gives no value of the type, for this reason
pub record GivesNoValue (input : List ℕ) (id : ℕ) (json : List ℕ) (error : CallError)
    : Type 0 where
  pub types : List PortableType
  pub encodes : EncodesTypes types input
  pub tree : Data
  pub is_json : IsJson tree json
  pub cause : IsTakingRefusal (taking (record { types = types }) id 1 tree) id error

-- why there is no encoding
abbrev pub IsEncodeRefusal : (input : List ℕ) → (id : ℕ) → (json : List ℕ) → CallError → Type 0
IsEncodeRefusal input id json errors.NoJson = IsTreeRefusal json errors.NoJson
IsEncodeRefusal input id json errors.Malformed = IsTableRefusal input errors.Malformed
IsEncodeRefusal input id json errors.TrailingBytes = IsTableRefusal input errors.TrailingBytes
IsEncodeRefusal input id json errors.Memory = Unit {0}
IsEncodeRefusal input id json error = GivesNoValue input id json error
