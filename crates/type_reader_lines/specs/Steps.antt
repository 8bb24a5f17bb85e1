-- An input, converted line by line by one converter. `start` is what was read before of the line
-- that is read.
use Rattle.std.specs.Prelude.{◌≡◌, ◌⊎◌, ◌+◌, ◌++◌, ◌&&◌, ℕ, List, [], IfSome, Some, length}
use Rattle.std.specs.Prelude.{true}
use Rattle.std.specs.declared.option.Option.{Option}
use Rattle.std.specs.Io.KnownBytes.{Appends, Consumes}
use Rattle.std.specs.List.{flat_map}
use Rattle.std.specs.Str.Lines.{lines}
use Rattle.type_reader_io.specs.Inputs.{IsReadError}
use Rattle.type_reader_io.specs.declared.error.ReaderError.{ReaderError}
use Rattle.type_reader_io.specs.declared.error.ReaderError.TheVariants as errors
use Rattle.type_reader_lines.specs.Outcomes.{AreOutcomes, Outcome, are_good}
use Rattle.type_reader_lines.specs.Outcomes.{output_of, reports_from}
use Rattle.type_reader_lines.specs.declared.convert.Converter.{Converter}
use Rattle.type_reader_lines.specs.declared.lines.Progress.{Progress}

-- no line was converted yet
pub record IsFirst (at : Progress) : Type 0 where
  pub pending : at.pending.items ≡ []
  pub count : at.count ≡ 0
  pub good : at.is_good ≡ true

-- of pending output the start was written: known bytes grew by it, and the rest is still pending
pub record HasWritten (pending left : List ℕ) (old new : Option (List ℕ)) : Type 0 where
  pub written : List ℕ
  pub appends : Appends old new written
  pub parts : pending ≡ written ++ left

-- These values were converted: of what was pending and of their outputs the start was written, and
-- the rest is pending; of each bad one it was reported that it is one.
pub record Converts (converter : Converter) (values : List (List ℕ)) (before after : Progress)
    (old new : Option (List ℕ)) (IsReported : List (List ℕ) → Type 0) : Type 0 where
  pub outcomes : List Outcome
  pub are_outcomes :
      AreOutcomes converter.conversion converter.registry converter.id values outcomes
  pub writes :
      HasWritten (before.pending.items ++ flat_map output_of outcomes) after.pending.items old new
  pub reports : IsReported (reports_from (before.count + 1) outcomes)
  pub counts : after.count ≡ before.count + length outcomes
  pub good : after.is_good ≡ (before.is_good && are_good outcomes)

-- what is left of the output at an error: what is pending, unless a write failed
abbrev pub IsLeft : ReaderError → (left : List ℕ) → Progress → Type 0
IsLeft error left after =
    (IsReadError error × (left ≡ after.pending.items)) ⊎ (error ≡ errors.Output)

-- these values were converted, as above, and then there was an error, of which nothing was reported
pub record Stops (converter : Converter) (values : List (List ℕ)) (before after : Progress)
    (old new : Option (List ℕ)) (IsReported : List (List ℕ) → Type 0) (error : ReaderError)
    : Type 0 where
  pub outcomes : List Outcome
  pub are_outcomes :
      AreOutcomes converter.conversion converter.registry converter.id values outcomes
  pub left : List ℕ
  pub writes : HasWritten (before.pending.items ++ flat_map output_of outcomes) left old new
  pub is_left : IsLeft error left after
  pub reports : IsReported (reports_from (before.count + 1) outcomes)

-- bytes were read of the input, and the lines that end in them were converted; `line` is what
-- stands after these
pub record HasConvertedRead (converter : Converter) (second_old second_new : Option (List ℕ))
    (start line : List ℕ) (before after : Progress) (old new : Option (List ℕ))
    (IsReported : List (List ℕ) → Type 0) : Type 0 where
  pub read : List ℕ
  pub consumes : Consumes second_old second_new read
  pub values : List (List ℕ)
  pub are_lines :
      (rest : List ℕ) → lines (start ++ (read ++ rest)) ≡ values ++ lines (line ++ rest)
  pub converts : Converts converter values before after old new IsReported

-- the first lines of the input were converted, and then there was an error
pub record HasStoppedRead (converter : Converter) (second : Option (List ℕ)) (start : List ℕ)
    (before after : Progress) (old new : Option (List ℕ)) (IsReported : List (List ℕ) → Type 0)
    (error : ReaderError) : Type 0 where
  pub values : List (List ℕ)
  pub are_first :
      IfSome second (λ bytes.
      (more : List (List ℕ)) × (lines (start ++ bytes) ≡ values ++ more))
  pub stops : Stops converter values before after old new IsReported error

-- the input was read to its end, and all its lines were converted
pub record HasConvertedAll (converter : Converter) (second_old second_new : Option (List ℕ))
    (start : List ℕ) (before after : Progress) (old new : Option (List ℕ))
    (IsReported : List (List ℕ) → Type 0) : Type 0 where
  pub values : List (List ℕ)
  pub are_lines : IfSome second_old (λ bytes. values ≡ lines (start ++ bytes))
  pub end : IfSome second_old (λ bytes. second_new ≡ Some [])
  pub converts : Converts converter values before after old new IsReported
