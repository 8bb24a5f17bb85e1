-- Values of a type that a text gives, converted: one that is given, or one for each line of the
-- second input.
use Rattle.std.specs.Prelude.{◌≡◌, ◌⊎◌, ℕ, List, [], ◌∷◌}
use Rattle.scale_info_grammar.specs.Ty.{EncodesTypes}
use Rattle.scale_info_table.specs.declared.portable.PortableRegistry.{PortableRegistry}
use Rattle.scale_info_types.specs.declared.ty.PortableType.{PortableType}
use Rattle.type_reader_io.specs.declared.command.Conversion.{Conversion}
use Rattle.type_reader_io.specs.declared.error.LineError.{LineError}
use Rattle.type_reader_io.specs.declared.error.LineError.TheVariants as line_errors
use Rattle.type_reader_io.specs.declared.error.ReaderError.{ReaderError}
use Rattle.type_reader_io.specs.declared.error.ReaderError.TheVariants as errors
use Rattle.type_reader_lines.specs.Conversions.{IsLine, IsLineError}
use Rattle.type_reader_lines.specs.Outcomes.{AreOutcomes, Outcome}
use Rattle.type_reader_run.specs.Selections.{AreNamed, IsChoiceError}
use Rattle.type_reader_run.specs.Tables.{HasTable, IsFoundError}

-- the text gives one type of the table, which is this one of these descriptions
pub record GivesType (table text : List ℕ) (registry : PortableRegistry) (id : ℕ)
    : Type 0 where
  pub encodes : EncodesTypes registry.types table
  pub named : AreNamed registry.types text (id ∷ [])

-- the text gives no type of the table, or several, for this error
pub record GivesNoType (table text : List ℕ) (error : ReaderError) : Type 0 where
  pub types : List PortableType
  pub encodes : EncodesTypes types table
  pub cause : IsChoiceError types text error

-- the text gives one type of the table, and the value, converted, is the output
pub record IsConverted (conversion : Conversion) (table text value output : List ℕ)
    : Type 0 where
  pub registry : PortableRegistry
  pub id : ℕ
  pub gives : GivesType table text registry id
  pub line : IsLine conversion registry id value output

-- the error of the program for one of a line
abbrev pub error_of : LineError → ReaderError
error_of (line_errors.Fault fault) = errors.NoValue fault
error_of line_errors.Memory = errors.Memory

-- the text gives one type of the table, and there is no line for the value, for this error
pub record HasNoLine (conversion : Conversion) (table text value : List ℕ)
    (error : ReaderError) : Type 0 where
  pub registry : PortableRegistry
  pub id : ℕ
  pub gives : GivesType table text registry id
  pub line_error : LineError
  pub cause : IsLineError conversion registry id value line_error
  pub is : error ≡ error_of line_error

-- why the value is not converted
abbrev pub IsConversionError : Conversion → (table text value : List ℕ) → ReaderError → Type 0
IsConversionError conversion table text value error =
    GivesNoType table text error ⊎ HasNoLine conversion table text value error

-- the bytes have a table, of which the text gives this type
pub record HasType (bytes text : List ℕ) (registry : PortableRegistry) (id : ℕ)
    : Type 0 where
  pub table : List ℕ
  pub has_table : HasTable bytes table
  pub gives : GivesType table text registry id

-- the bytes have a table, of which the text does not give one type, for this error
pub record HasNoType (bytes text : List ℕ) (error : ReaderError) : Type 0 where
  pub table : List ℕ
  pub has_table : HasTable bytes table
  pub gives_none : GivesNoType table text error

-- why there is no type to convert values of; an allocation may fail
abbrev pub IsTypeError : (bytes text : List ℕ) → ReaderError → Type 0
IsTypeError bytes text error =
    (error ≡ errors.Memory) ⊎ (IsFoundError bytes error ⊎ HasNoType bytes text error)

-- the bytes have a table, of which the text gives a type, and these come of the lines, which are
-- values of it
pub record HasOutcomes (conversion : Conversion) (bytes text : List ℕ) (lines : List (List ℕ))
    (outcomes : List Outcome) : Type 0 where
  pub registry : PortableRegistry
  pub id : ℕ
  pub has_type : HasType bytes text registry id
  pub are_outcomes : AreOutcomes conversion registry id lines outcomes
