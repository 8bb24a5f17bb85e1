-- The table of an input, which may be a node's metadata, and may be a text of hexadecimal digits.
use Rattle.std.specs.Prelude.{ℕ, List, unwrap_or}
use Rattle.scale_info_table_metadata.specs.HexTexts.{bytes_in}
use Rattle.scale_info_table_metadata.specs.TablesFound.{IsErrorOf, IsTableOf}
use Rattle.scale_info_table_metadata.specs.declared.metadata.MetadataError.{MetadataError}
use Rattle.scale_info_table_metadata.specs.declared.metadata.MetadataError.TheVariants as metadata_errors
use Rattle.scale_info_table_metadata.specs.declared.metadata.Source.{Source}
use Rattle.scale_info_calls.specs.declared.error.CallError.{CallError}
use Rattle.scale_info_calls.specs.declared.error.CallError.TheVariants as errors

-- the bytes that the input writes in hexadecimal digits; the input itself, where it is no such text
abbrev pub input_bytes : List ℕ → List ℕ
input_bytes input = unwrap_or (bytes_in input) input

-- the table of bytes: they are a table and nothing else, or a node's metadata, which begins with it
pub record HasTable (bytes table : List ℕ) : Type 0 where
  pub source : Source
  pub found : IsTableOf bytes source table

-- the error of a call for one of finding a table
abbrev pub error_of : MetadataError → CallError
error_of (metadata_errors.Version version) = errors.Version version
error_of metadata_errors.Malformed = errors.Malformed
error_of metadata_errors.Trailing = errors.TrailingBytes

-- why there is no table in bytes
abbrev pub HasNoTable : List ℕ → CallError → Type 0
HasNoTable bytes errors.Malformed = IsErrorOf bytes metadata_errors.Malformed
HasNoTable bytes errors.TrailingBytes = IsErrorOf bytes metadata_errors.Trailing
HasNoTable bytes (errors.Version version) = IsErrorOf bytes (metadata_errors.Version version)
HasNoTable bytes error = ⊥

-- why the table of an input is not given: there is none; or an allocation failed
abbrev pub IsMetadataRefusal : List ℕ → CallError → Type 0
IsMetadataRefusal input errors.Memory = Unit {0}
IsMetadataRefusal input error = HasNoTable (input_bytes input) error
