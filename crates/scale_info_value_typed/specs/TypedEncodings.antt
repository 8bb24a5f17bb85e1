-- What comes of encoding a value of a program's type.
use Rattle.std.specs.Prelude.{◌≡◌, ℕ, Option, Some, None}
use Rattle.scale_info_value_encode.specs.declared.error.EncodeValueError.{EncodeValueError}
use Rattle.scale_info_value_encode.specs.declared.error.EncodeValueError.TheVariants as encode_value
use Rattle.scale_info_table.specs.declared.portable.PortableRegistry.{PortableRegistry}
use Rattle.scale_info_value.specs.declared.value.Value.{Value}
use Rattle.scale_info_value_encode.specs.Writers.{Written, refused, mismatch}
use Rattle.scale_info_value_encode.specs.Writers as writers
use Rattle.scale_info_value_encode.specs.Writings.{writing}
use Rattle.scale_info_value_typed.specs.declared.error.ConvertError.{ConvertError}
use Rattle.scale_info_value_typed.specs.declared.error.ConvertError.TheVariants as convert
use Rattle.scale_info_value_typed.specs.declared.error.EncodeAsError.{EncodeAsError}
use Rattle.scale_info_value_typed.specs.declared.error.EncodeAsError.TheVariants as error

-- the bytes of the value of the type with that id that stands for another, if there is one
abbrev pub writing_of : PortableRegistry → ℕ → Option Value → Written
writing_of table id None = refused mismatch
writing_of table id (Some value) = writing table id 1 value

-- the error is that of encoding what stands for the value; where nothing does, that an allocation
-- failed
abbrev pub IsEncodeError : PortableRegistry → ℕ → Option Value → EncodeValueError → Type 0
IsEncodeError table id None why = why ≡ encode_value.Memory
IsEncodeError table id (Some value) why = writers.IsErrorOf (writing table id 1 value) why

-- the error is one of encoding; or it says that nothing stands for the value
abbrev pub IsErrorOf : PortableRegistry → ℕ → Option Value → EncodeAsError → Type 0
IsErrorOf table id standing (error.Encode why) = IsEncodeError table id standing why
IsErrorOf table id standing error.Mismatch = standing ≡ None

-- the error of encoding for one of converting
abbrev pub encoding_error : ConvertError → EncodeAsError
encoding_error convert.Mismatch = error.Mismatch
encoding_error convert.Memory = error.Encode encode_value.Memory
