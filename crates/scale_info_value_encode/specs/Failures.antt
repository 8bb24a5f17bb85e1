-- Why the parts of a value could not be encoded.
use Rattle.std.specs.Prelude.{List}
use Rattle.scale_info_value_encode.specs.declared.failure.PartError.{PartError}
use Rattle.scale_info_value_encode.specs.declared.failure.PartError.TheVariants as failure
use Rattle.scale_info_value_encode.specs.declared.path.Step.{Step}
use Rattle.scale_info_value_encode.specs.declared.error.EncodeValueError.{EncodeValueError}
use Rattle.scale_info_value_encode.specs.declared.error.EncodeValueError.TheVariants as error
use Rattle.scale_info_value_encode.specs.Writers.{Written, IsErrorOf}

-- the error, where these steps lead to the part that is none of its type
abbrev pub error_of : List Step → PartError → EncodeValueError
error_of steps failure.NoSuchType = error.NoSuchType
error_of steps failure.Unsupported = error.Unsupported
error_of steps failure.TooDeep = error.TooDeep
error_of steps failure.Mismatch = error.Mismatch (record { steps = steps })
error_of steps failure.Memory = error.Memory

-- with these steps the failure is an error of what came of a value
abbrev pub Fails : Written → List Step → PartError → Type 0
Fails outcome steps why = IsErrorOf outcome (error_of steps why)
