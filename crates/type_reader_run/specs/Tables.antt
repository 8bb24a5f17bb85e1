-- The table of an input.
use Rattle.std.specs.Prelude.{◌++◌, ℕ, List, [], Bool, true, false, codes, decimal, is_some}
use Rattle.std.specs.Prelude.{unwrap_or}
use Rattle.scale_info_grammar.specs.Ty.{EncodesTypes}
use Rattle.scale_info_table_metadata.specs.HexTexts.{bytes_in}
use Rattle.scale_info_table_metadata.specs.TablesFound.{IsErrorOf, IsTableOf}
use Rattle.scale_info_table_metadata.specs.declared.metadata.Source.{Source}
use Rattle.scale_info_table_metadata.specs.declared.metadata.Source.TheVariants as sources
use Rattle.scale_info_table_metadata.specs.declared.metadata.MetadataError.{MetadataError}
use Rattle.scale_info_table_metadata.specs.declared.metadata.MetadataError.TheVariants as metadata_errors
use Rattle.scale_info_types.specs.declared.ty.PortableType.{PortableType}
use Rattle.type_reader_io.specs.declared.error.ReaderError.{ReaderError}
use Rattle.type_reader_io.specs.declared.error.ReaderError.TheVariants as errors

-- whether the input is a text that writes bytes in hexadecimal digits
abbrev pub is_hexadecimal : List ℕ → Bool
is_hexadecimal input = is_some (bytes_in input)

-- the bytes that the input writes in hexadecimal digits; the input itself, where it is no such text
abbrev pub input_bytes : List ℕ → List ℕ
input_bytes input = unwrap_or (bytes_in input) input

-- the bytes encode a table, with nothing after it
pub record IsOneTable (table : List ℕ) : Type 0 where
  pub types : List PortableType
  pub encodes : EncodesTypes types table

-- the table of bytes: they are a table and nothing else, or a node's metadata, which begins with it
pub record HasTable (bytes table : List ℕ) : Type 0 where
  pub source : Source
  pub found : IsTableOf bytes source table

-- the types of the table of bytes
pub record HasTypes (bytes : List ℕ) (types : List PortableType) : Type 0 where
  pub table : List ℕ
  pub has : HasTable bytes table
  pub encodes : EncodesTypes types table

-- what bytes that have a table are, in words
abbrev pub source_text : Source → List ℕ
source_text sources.Table = codes "a table"
source_text (sources.Metadata version) = codes "metadata of version " ++ decimal version

-- how an input has its bytes, in words
abbrev pub form_text : Bool → List ℕ
form_text true = codes ", in hexadecimal digits"
form_text false = []

-- the line that says what an input is
abbrev pub source_line : Source → (is_hexadecimal : Bool) → List ℕ
source_line source is_hexadecimal =
    codes "input: " ++ (source_text source ++ (form_text is_hexadecimal ++ codes "\n"))

-- the error of the program for one of finding a table
abbrev pub error_of : MetadataError → ReaderError
error_of (metadata_errors.Version version) = errors.Version version
error_of metadata_errors.Malformed = errors.Malformed
error_of metadata_errors.Trailing = errors.TrailingBytes

-- why no table is found in the bytes
abbrev pub IsFoundError : List ℕ → ReaderError → Type 0
IsFoundError bytes errors.Malformed = IsErrorOf bytes metadata_errors.Malformed
IsFoundError bytes errors.TrailingBytes = IsErrorOf bytes metadata_errors.Trailing
IsFoundError bytes (errors.Version version) = IsErrorOf bytes (metadata_errors.Version version)
IsFoundError bytes error = ⊥
