-- Why there is no text and no encoding of a value, where the table is known.
use Rattle.std.proofs.Common.{ℕ, List}
use Rattle.serde_json.specs.Data.{Data}
use Rattle.scale_info_calls.specs.Encodings.{IsEncodeRefusal, IsJson, IsTakingRefusal}
use Rattle.scale_info_calls.specs.Values.{IsReadingRefusal, IsValueRefusal}
use Rattle.scale_info_calls.specs.declared.error.CallError.{CallError}
use Rattle.scale_info_calls.specs.declared.error.CallError.TheVariants as errors
use Rattle.scale_info_grammar.specs.Ty.{EncodesTypes}
use Rattle.scale_info_types.specs.declared.ty.PortableType.{PortableType}
use Rattle.scale_info_value.specs.Readings.{reading}
use Rattle.scale_info_value_json.specs.Takings.{taking}

-- why bytes have no text as a value
pub no_value :
    (input : List ℕ) (id : ℕ) (bytes : List ℕ) (types : List PortableType) (error : CallError)
    → EncodesTypes types input
    → IsReadingRefusal (reading (record { types = types }) id 1 bytes) id error
    → IsValueRefusal input id bytes error
no_value input id bytes types (errors.NoSuchType asked) e cause =
    record { types = types; encodes = e; cause = cause }
no_value input id bytes types errors.Unsupported e cause =
    record { types = types; encodes = e; cause = cause }
no_value input id bytes types errors.TooDeep e cause =
    record { types = types; encodes = e; cause = cause }
no_value input id bytes types errors.MalformedValue e cause =
    record { types = types; encodes = e; cause = cause }
no_value input id bytes types errors.TrailingValue e cause =
    record { types = types; encodes = e; cause = cause }
no_value input id bytes types errors.Memory e cause = tt
no_value input id bytes types errors.Malformed e cause = absurd cause
no_value input id bytes types errors.TrailingBytes e cause = absurd cause
no_value input id bytes types (errors.Dangling missing) e cause = absurd cause
no_value input id bytes types (errors.NoRoom wanted) e cause = absurd cause
no_value input id bytes types (errors.Version version) e cause = absurd cause
no_value input id bytes types errors.NoText e cause = absurd cause
no_value input id bytes types errors.NoJson e cause = absurd cause
no_value input id bytes types errors.Mismatch e cause = absurd cause

-- why a text gives no value
pub gives_no_value :
    (input : List ℕ) (id : ℕ) (json : List ℕ) (types : List PortableType) (tree : Data)
    (error : CallError) → EncodesTypes types input → IsJson tree json
    → IsTakingRefusal (taking (record { types = types }) id 1 tree) id error
    → IsEncodeRefusal input id json error
gives_no_value input id json types tree (errors.NoSuchType asked) e is cause =
    record { types = types; encodes = e; tree = tree; is_json = is; cause = cause }
gives_no_value input id json types tree errors.Unsupported e is cause =
    record { types = types; encodes = e; tree = tree; is_json = is; cause = cause }
gives_no_value input id json types tree errors.TooDeep e is cause =
    record { types = types; encodes = e; tree = tree; is_json = is; cause = cause }
gives_no_value input id json types tree errors.Mismatch e is cause =
    record { types = types; encodes = e; tree = tree; is_json = is; cause = cause }
gives_no_value input id json types tree errors.Memory e is cause = tt
gives_no_value input id json types tree errors.Malformed e is cause = absurd cause
gives_no_value input id json types tree errors.TrailingBytes e is cause = absurd cause
gives_no_value input id json types tree (errors.Dangling missing) e is cause = absurd cause
gives_no_value input id json types tree (errors.NoRoom wanted) e is cause = absurd cause
gives_no_value input id json types tree (errors.Version version) e is cause = absurd cause
gives_no_value input id json types tree errors.NoText e is cause = absurd cause
gives_no_value input id json types tree errors.NoJson e is cause = absurd cause
gives_no_value input id json types tree errors.MalformedValue e is cause = absurd cause
gives_no_value input id json types tree errors.TrailingValue e is cause = absurd cause
