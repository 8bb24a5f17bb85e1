-- Why there is no line for a text, by what comes of it.
use Rattle.std.proofs.Common.{◌≡◌, ℕ, List, Some, inl, inr}
use Rattle.serde_json.specs.Data.{Data}
use Rattle.scale_info_hexadecimal.specs.Digits.{bytes_by_digits}
use Rattle.scale_info_table.specs.declared.portable.PortableRegistry.{PortableRegistry}
use Rattle.scale_info_value.specs.Readings.{reading}
use Rattle.scale_info_value_json.specs.Takings.{taking}
use Rattle.type_reader_io.specs.declared.error.LineError.{LineError}
use Rattle.type_reader_io.specs.declared.error.LineError.TheVariants as errors
use Rattle.type_reader_lines.specs.Encodings.{IsEncodingError, IsJsonOf, IsTakingError, IsTreeError}
use Rattle.type_reader_lines.specs.Values.{IsReadingError, IsValueError}

-- the bytes that the digits write are no value
pub value_error :
    (table : PortableRegistry) (id : ℕ) (digits bytes : List ℕ) (error : LineError)
    → bytes_by_digits digits ≡ Some bytes → IsReadingError (reading table id 1 bytes) error
    → IsValueError table id digits error
value_error table id digits bytes (errors.Fault fault) written cause =
    inr (record { bytes = bytes; written_by = written; cause = cause })
value_error table id digits bytes errors.Memory written cause = tt

-- there is no tree
pub tree_error :
    (table : PortableRegistry) (id : ℕ) (json : List ℕ) (error : LineError)
    → IsTreeError json error → IsEncodingError table id json error
tree_error table id json (errors.Fault fault) cause = inl cause
tree_error table id json errors.Memory cause = tt

-- the tree gives no value
pub taking_error :
    (table : PortableRegistry) (id : ℕ) (json : List ℕ) (tree : Data) (error : LineError)
    → IsJsonOf tree json → IsTakingError (taking table id 1 tree) error
    → IsEncodingError table id json error
taking_error table id json tree (errors.Fault fault) is cause =
    inr (record { tree = tree; is_json = is; cause = cause })
taking_error table id json tree errors.Memory is cause = tt
