-- Why a value is not converted, or bytes are not decoded as a value of a program's type.
use Rattle.std.specs.Prelude.{◌≡◌, ℕ, List, Option, None}
use Rattle.scale_info_value.specs.Outcomes.{Outcome, decoded}
use Rattle.scale_info_value.specs.Outcomes as values
use Rattle.scale_info_value.specs.declared.value.ValueError.TheVariants as value_error
use Rattle.scale_info_value_typed.specs.declared.error.ConvertError.{ConvertError}
use Rattle.scale_info_value_typed.specs.declared.error.ConvertError.TheVariants as convert
use Rattle.scale_info_value_typed.specs.declared.error.DecodeAsError.{DecodeAsError}
use Rattle.scale_info_value_typed.specs.declared.error.DecodeAsError.TheVariants as error

-- the error says that there is no value; a failed allocation says nothing of the value
abbrev pub IsMissing : {A : Type 0} → Option A → ConvertError → Type 0
IsMissing found convert.Mismatch = found ≡ None
IsMissing found convert.Memory = Unit {0}

-- the error is that of the decoding; or it says that a value was decoded which is none of the type
abbrev pub IsErrorOf : {V A : Type 0} → (V → Option A) → Outcome V → DecodeAsError → Type 0
IsErrorOf meant outcome (error.Decode why) = values.IsErrorOf outcome why
IsErrorOf {V} meant outcome error.Mismatch =
    (value : V) × (rest : List ℕ) × (outcome ≡ decoded value rest) × (meant value ≡ None)

-- the error of decoding for one of converting
abbrev pub decoding_error : ConvertError → DecodeAsError
decoding_error convert.Mismatch = error.Mismatch
decoding_error convert.Memory = error.Decode value_error.Memory
