-- Values of a type, each converted to a line.
use Rattle.std.specs.Prelude.{◌≡◌, ◌++◌, ℕ, List}
use Rattle.scale_info_table.specs.declared.portable.PortableRegistry.{PortableRegistry}
use Rattle.type_reader_io.specs.declared.command.Conversion.{Conversion}
use Rattle.type_reader_io.specs.declared.command.Conversion.TheVariants as conversions
use Rattle.type_reader_io.specs.declared.error.LineError.{LineError}
use Rattle.type_reader_lines.specs.Encodings.{IsEncodedLine, IsEncodingError}
use Rattle.type_reader_lines.specs.Values.{IsValueError, IsValueLine}

-- a list of bytes grew by a line of which the fact holds
pub record AppendsLine (IsTheLine : List ℕ → Type 0) (old new : List ℕ) : Type 0 where
  pub line : List ℕ
  pub is_line : IsTheLine line
  pub parts : new ≡ old ++ line

-- the value, converted, is this line
abbrev pub IsLine : Conversion → PortableRegistry → (id : ℕ) → (value line : List ℕ) → Type 0
IsLine conversions.Decode table id value line = IsValueLine table id value line
IsLine conversions.Encode table id value line = IsEncodedLine table id value line

-- why there is no line for the value; an allocation may fail
abbrev pub IsLineError : Conversion → PortableRegistry → (id : ℕ) → (value : List ℕ) → LineError
    → Type 0
IsLineError conversions.Decode table id value error = IsValueError table id value error
IsLineError conversions.Encode table id value error = IsEncodingError table id value error
