-- What comes of the lines of an input, each a value of a type.
use Rattle.std.specs.Prelude.{◌≡◌, ◌+◌, ◌++◌, ℕ, List, [], ◌∷◌, Bool, true, false, IfSome, Some}
use Rattle.std.specs.declared.option.Option.{Option}
use Rattle.std.specs.Io.KnownBytes.{Appends}
use Rattle.std.specs.List.{flat_map}
use Rattle.std.specs.Str.Lines.{lines}
use Rattle.scale_info_table.specs.declared.portable.PortableRegistry.{PortableRegistry}
use Rattle.type_reader_io.specs.Lines.{bad_line}
use Rattle.type_reader_io.specs.declared.command.Conversion.{Conversion}
use Rattle.type_reader_io.specs.declared.error.LineError.TheVariants as line_errors
use Rattle.type_reader_io.specs.declared.error.ReaderError.{ReaderError}
use Rattle.type_reader_io.specs.declared.error.ReaderError.TheVariants as errors
use Rattle.type_reader_io.specs.declared.error.ValueFault.{ValueFault}
use Rattle.type_reader_lines.specs.Conversions.{IsLine, IsLineError}
use Rattle.type_reader_lines.specs.declared.convert.Converter.{Converter}
use Rattle.type_table_io.specs.Reports.{AppendsPrefix}

-- what comes of a line of the second input: a line of output, or the reason why there is none
pub data Outcome : Type 0 where
  made : List ℕ → Outcome
  bad : ValueFault → Outcome

-- this comes of the line, which is a value of the type
abbrev pub IsOutcome : Conversion → PortableRegistry → (id : ℕ) → List ℕ → Outcome → Type 0
IsOutcome conversion table id line (made output) = IsLine conversion table id line output
IsOutcome conversion table id line (bad fault) =
    IsLineError conversion table id line (line_errors.Fault fault)

-- these come of the lines, one of each
abbrev pub AreOutcomes : Conversion → PortableRegistry → (id : ℕ) → List (List ℕ) → List Outcome
    → Type 0
AreOutcomes conversion table id [] [] = Unit {0}
AreOutcomes conversion table id [] (outcome ∷ outcomes) = ⊥
AreOutcomes conversion table id (line ∷ lines) [] = ⊥
AreOutcomes conversion table id (line ∷ lines) (outcome ∷ outcomes) =
    IsOutcome conversion table id line outcome × AreOutcomes conversion table id lines outcomes

-- the output of a line; nothing, where it is bad
abbrev pub output_of : Outcome → List ℕ
output_of (made output) = output
output_of (bad fault) = []

-- whether no line is bad
abbrev pub are_good : List Outcome → Bool
are_good [] = true
are_good (made output ∷ outcomes) = are_good outcomes
are_good (bad fault ∷ outcomes) = false

-- the reports of the bad lines, each with its number; that of the first line is given
abbrev pub reports_from : (number : ℕ) → List Outcome → List (List ℕ)
reports_from number [] = []
reports_from number (made output ∷ outcomes) = reports_from (number + 1) outcomes
reports_from number (bad fault ∷ outcomes) =
    bad_line number fault ∷ reports_from (number + 1) outcomes

-- what an error after some lines says of known bytes, where these are the outputs of the lines
abbrev pub ExplainsStop : (old new : Option (List ℕ)) → (outputs : List ℕ) → ReaderError → Type 0
ExplainsStop old new outputs errors.Memory = Appends old new outputs
ExplainsStop old new outputs errors.Input = Appends old new outputs
ExplainsStop old new outputs errors.Output = AppendsPrefix old new outputs
ExplainsStop old new outputs error = ⊥

-- These came of all lines of the second input, which was read to its end.
pub record HasConvertedLines (converter : Converter) (second_old second_new : Option (List ℕ))
    (old new : Option (List ℕ)) (IsReported : List (List ℕ) → Type 0) (is_good : Bool)
    : Type 0 where
  pub values : List (List ℕ)
  pub are_lines : IfSome second_old (λ bytes. values ≡ lines bytes)
  pub end : IfSome second_old (λ bytes. second_new ≡ Some [])
  pub outcomes : List Outcome
  pub are_outcomes :
      AreOutcomes converter.conversion converter.registry converter.id values outcomes
  pub appends : Appends old new (flat_map output_of outcomes)
  pub reports : IsReported (reports_from 1 outcomes)
  pub good : is_good ≡ are_good outcomes

-- These came of the first lines of the second input, and then there was an error, of which nothing
-- was reported.
pub record HasStopped (converter : Converter) (second old new : Option (List ℕ))
    (IsReported : List (List ℕ) → Type 0) (error : ReaderError) : Type 0 where
  pub values : List (List ℕ)
  pub are_first :
      IfSome second (λ bytes. (more : List (List ℕ)) × (lines bytes ≡ values ++ more))
  pub outcomes : List Outcome
  pub are_outcomes :
      AreOutcomes converter.conversion converter.registry converter.id values outcomes
  pub explains : ExplainsStop old new (flat_map output_of outcomes) error
  pub reports : IsReported (reports_from 1 outcomes)
