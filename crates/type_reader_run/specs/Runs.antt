-- What a run did: of a table, or line by line. `IsReported` says of texts that they were reported,
-- one after another; of known bytes, which may not be known, `old` are those of the output before
-- and `new` those after.
use Rattle.std.specs.Prelude.{◌≡◌, ◌⊎◌, ◌++◌, ℕ, List, [], ◌∷◌, Bool, true, false, IfSome, Some}
use Rattle.std.specs.declared.option.Option.{Option}
use Rattle.std.specs.Io.KnownBytes.{Appends, IsAtEnd, Keeps}
use Rattle.std.specs.List.{flat_map}
use Rattle.std.specs.Str.Lines.{lines}
use Rattle.type_reader_io.specs.declared.command.Command.{Command}
use Rattle.type_reader_io.specs.declared.command.Command.TheVariants as commands
use Rattle.type_reader_io.specs.declared.command.Comparison.{Comparison}
use Rattle.type_reader_io.specs.declared.command.Conversion.{Conversion}
use Rattle.type_reader_io.specs.declared.command.Request.{Request}
use Rattle.type_reader_io.specs.declared.error.ReaderError.{ReaderError}
use Rattle.type_reader_io.specs.declared.error.ReaderError.TheVariants as errors
use Rattle.type_reader_io.specs.Lines.{HasSmallNumber, IsReportedAs, line_of}
use Rattle.type_reader_run.specs.Conversions.{HasOutcomes, IsTypeError}
use Rattle.type_reader_lines.specs.Outcomes.{ExplainsStop, Outcome, are_good, output_of, reports_from}
use Rattle.type_reader_run.specs.Differences.{ExplainsDiff, WritesChanges, WritesSomeChange}
use Rattle.type_reader_run.specs.Outputs.{WritesWhole}
use Rattle.type_reader_run.specs.Refusals.{Explains}
use Rattle.type_reader_io.specs.Reports.{ReportsEach, texts_of}
use Rattle.type_reader_run.specs.Tables.{input_bytes}

-- known bytes grow by the request's output for the whole input, and the notes on it were reported
pub record DoesOnce (request : Request) (input old new : Option (List ℕ))
    (IsReported : List (List ℕ) → Type 0) : Type 0 where
  pub notes : List ℕ
  pub writes : WritesWhole request input old new notes
  pub reports : IsReported (texts_of notes)

-- one error holds, and its line was reported
pub record RefusesOnce (request : Request) (input old new : Option (List ℕ))
    (IsReported : List (List ℕ) → Type 0) : Type 0 where
  pub error : ReaderError
  pub small : HasSmallNumber error
  pub explains : Explains request input old new error
  pub reports : IsReported (line_of error ∷ [])

-- These come of all lines of the second input, which are values of the type that the text gives of
-- the table of the first: known bytes grow by the outputs of the lines, in order, and of each bad
-- line it was reported that it is one, in order. `is_good` says whether there is none.
pub record ConvertsAll (conversion : Conversion) (text : List ℕ)
    (input second old new : Option (List ℕ)) (IsReported : List (List ℕ) → Type 0)
    (is_good : Bool) : Type 0 where
  pub values : List (List ℕ)
  pub are_lines : IfSome second (λ bytes. values ≡ lines bytes)
  pub outcomes : List Outcome
  pub have_outcomes :
      IfSome input (λ bytes. HasOutcomes conversion (input_bytes bytes) text values outcomes)
  pub appends : Appends old new (flat_map output_of outcomes)
  pub reports : IsReported (reports_from 1 outcomes)
  pub good : is_good ≡ are_good outcomes

-- There is no type to convert values of, for this error, and known bytes are as before.
pub record IsWithoutType (text : List ℕ) (input old new : Option (List ℕ)) (error : ReaderError)
    : Type 0 where
  pub cause :
      (error ≡ errors.Input)
      ⊎ IfSome input (λ bytes. IsTypeError (input_bytes bytes) text error)
  pub keeps : Keeps old new

-- These come of the first lines of the second input, and then there was this error.
pub record StopsAfter (conversion : Conversion) (text : List ℕ)
    (input second old new : Option (List ℕ)) (outcomes : List Outcome) (error : ReaderError)
    : Type 0 where
  pub values : List (List ℕ)
  pub are_first :
      IfSome second (λ bytes. (more : List (List ℕ)) × (lines bytes ≡ values ++ more))
  pub have_outcomes :
      IfSome input (λ bytes. HasOutcomes conversion (input_bytes bytes) text values outcomes)
  pub explains : ExplainsStop old new (flat_map output_of outcomes) error

-- Why lines were not all converted: there is no type to convert values of, for an error that was
-- reported; or all lines were converted but the bad ones, of which there is one; or the bad ones of
-- the first lines were reported, and then an error.
pub data RefusesLines (conversion : Conversion) (text : List ℕ)
    (input second old new : Option (List ℕ)) (IsReported : List (List ℕ) → Type 0)
    : Type 0 where
  no_type :
      {error : ReaderError}
      → HasSmallNumber error → IsWithoutType text input old new error
      → IsReported (line_of error ∷ [])
      → RefusesLines conversion text input second old new IsReported
  bad_lines :
      ConvertsAll conversion text input second old new IsReported false
      → RefusesLines conversion text input second old new IsReported
  stopped :
      {outcomes : List Outcome} {error : ReaderError}
      → StopsAfter conversion text input second old new outcomes error
      → IsReported (reports_from 1 outcomes ++ line_of error ∷ [])
      → RefusesLines conversion text input second old new IsReported

-- Why the status of a comparison is 1: something changed, and nothing was reported; or one error
-- holds, and its line was reported.
pub data RefusesDiff (comparison : Comparison) (input second old new : Option (List ℕ))
    (IsReported : List (List ℕ) → Type 0) : Type 0 where
  has_changes :
      WritesSomeChange comparison input second old new → IsReported []
      → RefusesDiff comparison input second old new IsReported
  not_compared :
      (error : ReaderError)
      → HasSmallNumber error → ExplainsDiff comparison input second old new error
      → IsReported (line_of error ∷ [])
      → RefusesDiff comparison input second old new IsReported

-- the command was done; of tables that are compared, nothing changed
abbrev pub Does : Command → (input second old new : Option (List ℕ))
    → (IsReported : List (List ℕ) → Type 0) → Type 0
Does (commands.Once request) input second old new IsReported =
    DoesOnce request input old new IsReported
Does (commands.Lines conversion text) input second old new IsReported =
    ConvertsAll conversion text.now input second old new IsReported true
Does (commands.Diff comparison) input second old new IsReported =
    WritesChanges comparison input second old new [] × IsReported []

-- the command was not done, or not of all lines; or something changed
abbrev pub Refuses : Command → (input second old new : Option (List ℕ))
    → (IsReported : List (List ℕ) → Type 0) → Type 0
Refuses (commands.Once request) input second old new IsReported =
    RefusesOnce request input old new IsReported
Refuses (commands.Lines conversion text) input second old new IsReported =
    RefusesLines conversion text.now input second old new IsReported
Refuses (commands.Diff comparison) input second old new IsReported =
    RefusesDiff comparison input second old new IsReported

-- a command came to its end: all of it was done, and nothing changed; or not all, or something did
abbrev pub Ends : Bool → Command → (input second old new : Option (List ℕ))
    → (IsReported : List (List ℕ) → Type 0) → Type 0
Ends true command input second old new IsReported = Does command input second old new IsReported
Ends false command input second old new IsReported =
    Refuses command input second old new IsReported

-- The command is refused for this error, once it is reported too; `before` and `after` are the
-- reporter before the command and after it.
abbrev pub IsRefusedFor : {T : Type 0} → (T → T → List ℕ → Type 0) → Command
    → (input second old new : Option (List ℕ)) → (before after : T) → ReaderError → Type 0
IsRefusedFor {T} reported command input second old new before after error =
    (last : T) → HasSmallNumber error → reported after last (line_of error)
    → Refuses command input second old new (ReportsEach reported before last)

-- the second input is as it was, where the command does not read it
abbrev pub KeepsSecond : {S : Type 0} → Command → (old new : S) → Type 0
KeepsSecond (commands.Once request) old new = new ≡ old
KeepsSecond (commands.Lines conversion text) old new = Unit {0}
KeepsSecond (commands.Diff comparison) old new = Unit {0}

-- the second input was read to its end, where the command reads it
abbrev pub EndsSecond : Command → (old new : Option (List ℕ)) → Type 0
EndsSecond (commands.Once request) old new = Unit {0}
EndsSecond (commands.Lines conversion text) old new = IfSome old (λ bytes. new ≡ Some [])
EndsSecond (commands.Diff comparison) old new = IsAtEnd new

-- what an error says of the command that is refused for it
abbrev pub Explained : Command → (input second old new : Option (List ℕ)) → ReaderError → Type 0
Explained (commands.Once request) input second old new error =
    Explains request input old new error
Explained (commands.Lines conversion text) input second old new error =
    IsWithoutType text.now input old new error
    ⊎ ((outcomes : List Outcome)
    × StopsAfter conversion text.now input second old new outcomes error)
Explained (commands.Diff comparison) input second old new error =
    ExplainsDiff comparison input second old new error

-- the error that this one reports is so
abbrev pub IsSo : Command → (input second old new : Option (List ℕ)) → ReaderError → Type 0
IsSo command input second old new reported =
    (error : ReaderError)
    × IsReportedAs reported error
    × Explained command input second old new error
