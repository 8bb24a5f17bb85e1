-- What a run did, with what is known of its converter, and by what else says of texts that they
-- were reported.
use Rattle.std.proofs.Common.{◌≡◌, ◌⊎◌, ◌++◌, ℕ, List, [], ◌∷◌, Bool, Option, None, Some}
use Rattle.std.proofs.Common.{Bor, IfSome, refl, subst}
use Rattle.std.specs.Prelude.{IsSomeAnd}
use Rattle.std.proofs.KnownBytes.{Keeps-refl}
use Rattle.type_reader_io.specs.Lines.{HasSmallNumber, line_of}
use Rattle.type_reader_io.specs.Reports.{ReportsEach, texts_of}
use Rattle.type_reader_io.specs.declared.command.Command.{Command}
use Rattle.type_reader_io.specs.declared.command.Command.TheVariants as commands
use Rattle.type_reader_io.specs.declared.command.Conversion.{Conversion}
use Rattle.type_reader_io.specs.declared.error.ReaderError.{ReaderError}
use Rattle.type_reader_io.specs.declared.error.ReaderError.TheVariants as errors
use Rattle.type_reader_io.proofs.Reports.{each_and}
use Rattle.type_reader_lines.specs.Outcomes.{AreOutcomes}
use Rattle.type_reader_run.specs.Conversions.{HasOutcomes, HasType, IsTypeError}
use Rattle.type_reader_lines.specs.Outcomes.{Outcome, reports_from}
use Rattle.type_reader_run.specs.Runs.{ConvertsAll, Does, Refuses, RefusesLines, StopsAfter}
use Rattle.type_reader_run.specs.Runs.{bad_lines, has_changes, no_type, not_compared, stopped}
use Rattle.type_reader_lines.specs.Outcomes.{HasConvertedLines, HasStopped}
use Rattle.type_reader_run.specs.Tables.{input_bytes}
use Rattle.type_reader_lines.specs.declared.convert.Converter.{Converter}

-- these come of the lines by the table of a known input
have_outcomes :
    (conversion : Conversion) (text : List ℕ) (input : Option (List ℕ)) (converter : Converter)
    (values : List (List ℕ)) (outcomes : List Outcome)
    → converter.conversion ≡ conversion
    → IfSome input (λ bytes.
    HasType (input_bytes bytes) text converter.registry converter.id)
    → AreOutcomes converter.conversion converter.registry converter.id values outcomes
    → IfSome input (λ bytes. HasOutcomes conversion (input_bytes bytes) text values outcomes)
have_outcomes conversion text None converter values outcomes way type are = tt
have_outcomes conversion text (Some bytes) converter values outcomes way type are = record {
  registry = converter.registry;
  id = converter.id;
  has_type = type;
  are_outcomes =
      subst (λ w. AreOutcomes w converter.registry converter.id values outcomes) way are;
}

module _ {conversion : Conversion} {text : List ℕ} {input second old new : Option (List ℕ)}
    {converter : Converter} {IsReported : List (List ℕ) → Type 0} where
  -- all lines were converted
  pub converts_all :
      {second_new : Option (List ℕ)} {is_good : Bool}
      → converter.conversion ≡ conversion
      → IfSome input (λ bytes.
      HasType (input_bytes bytes) text converter.registry converter.id)
      → HasConvertedLines converter second second_new old new IsReported is_good
      → ConvertsAll conversion text input second old new IsReported is_good
  converts_all way type h = record {
    values = h.values;
    are_lines = h.are_lines;
    outcomes = h.outcomes;
    have_outcomes =
        have_outcomes conversion text input converter h.values h.outcomes way type h.are_outcomes;
    appends = h.appends;
    reports = h.reports;
    good = h.good;
  }

  -- the first lines were
  pub stops_after :
      {error : ReaderError}
      → converter.conversion ≡ conversion
      → IfSome input (λ bytes.
      HasType (input_bytes bytes) text converter.registry converter.id)
      → (h : HasStopped converter second old new IsReported error)
      → StopsAfter conversion text input second old new h.outcomes error
  stops_after way type h = record {
    values = h.values;
    are_first = h.are_first;
    have_outcomes =
        have_outcomes conversion text input converter h.values h.outcomes way type h.are_outcomes;
    explains = h.explains;
  }

module _ {T : Type 0} (reported : T → T → List ℕ → Type 0) (before : T) where
  -- there is no type to convert lines by
  pub lines_refused :
      (conversion : Conversion) (text : List ℕ) (input second output : Option (List ℕ))
      (error : ReaderError)
      → (error ≡ errors.Input) ⊎ IfSome input (λ bytes. IsTypeError (input_bytes bytes) text error)
      → (last : T) → HasSmallNumber error → reported before last (line_of error)
      → RefusesLines conversion text input second output output (ReportsEach reported before last)
  lines_refused conversion text input second output error cause last small told =
      no_type {error = error} small (record { cause = cause; keeps = Keeps-refl output })
      (last, told, refl)

  -- an error after some lines
  pub lines_stopped :
      {conversion : Conversion} {text : List ℕ} {input second old new : Option (List ℕ)}
      {converter : Converter} (after : T) {error : ReaderError}
      → converter.conversion ≡ conversion
      → IfSome input (λ bytes.
      HasType (input_bytes bytes) text converter.registry converter.id)
      → HasStopped converter second old new (ReportsEach reported before after) error
      → (last : T) → HasSmallNumber error → reported after last (line_of error)
      → RefusesLines conversion text input second old new (ReportsEach reported before last)
  lines_stopped after {error = error} way type h last small told =
      stopped {outcomes = h.outcomes} {error = error} (stops_after way type h)
      (each_and reported before after last (reports_from 1 h.outcomes) (line_of error) h.reports
      told)

-- of all lines, by another word for what was reported
converts_by :
    {conversion : Conversion} {text : List ℕ} {input second old new : Option (List ℕ)}
    {is_good : Bool} {P Q : List (List ℕ) → Type 0}
    → ((texts : List (List ℕ)) → P texts → Q texts)
    → ConvertsAll conversion text input second old new P is_good
    → ConvertsAll conversion text input second old new Q is_good
converts_by by h = record {
  values = h.values;
  are_lines = h.are_lines;
  outcomes = h.outcomes;
  have_outcomes = h.have_outcomes;
  appends = h.appends;
  reports = by (reports_from 1 h.outcomes) h.reports;
  good = h.good;
}

-- by another word for what was reported
does_by :
    (command : Command) (input second old new : Option (List ℕ))
    (P Q : List (List ℕ) → Type 0) → ((texts : List (List ℕ)) → P texts → Q texts)
    → Does command input second old new P → Does command input second old new Q
does_by (commands.Once request) input second old new P Q by h =
    record {
      notes = h.notes;
      writes = h.writes;
      reports = by (texts_of h.notes) h.reports;
    }
does_by (commands.Lines conversion text) input second old new P Q by h = converts_by by h
does_by (commands.Diff comparison) input second old new P Q by h = (h.0, by [] h.1)

-- what a command refuses, by what follows from its reports
refuses_by :
    (command : Command) (input second old new : Option (List ℕ))
    (P Q : List (List ℕ) → Type 0) → ((texts : List (List ℕ)) → P texts → Q texts)
    → Refuses command input second old new P → Refuses command input second old new Q
refuses_by (commands.Once request) input second old new P Q by h = record {
  error = h.error;
  small = h.small;
  explains = h.explains;
  reports = by (line_of h.error ∷ []) h.reports;
}
refuses_by (commands.Lines conversion text) input second old new P Q by (no_type {error = error} small without reports) =
    no_type small without (by (line_of error ∷ []) reports)
refuses_by (commands.Lines conversion text) input second old new P Q by (bad_lines h) =
    bad_lines (converts_by by h)
refuses_by (commands.Lines conversion text) input second old new P Q by (stopped {outcomes = outcomes} {error = error} stops reports) =
    stopped stops (by (reports_from 1 outcomes ++ line_of error ∷ []) reports)
refuses_by (commands.Diff comparison) input second old new P Q by (has_changes writes reports) =
    has_changes writes (by [] reports)
refuses_by (commands.Diff comparison) input second old new P Q by (not_compared error small explains reports) =
    not_compared error small explains (by (line_of error ∷ []) reports)

-- of a command, if there is one, by what follows from what holds of it
holds_by :
    {A : Type 0} (command : Option A) {P Q : A → Type 0}
    → ((it : A) → P it → Q it) → IsSomeAnd command P → IsSomeAnd command Q
holds_by None by h = absurd h
holds_by (Some it) by h = by it h

module _ (command : Option (Bor Command)) (input second old new : Option (List ℕ))
    (P Q : List (List ℕ) → Type 0) (by : (texts : List (List ℕ)) → P texts → Q texts) where
  -- what was done, by another word for what was reported
  pub done_by :
      IsSomeAnd command (λ it. Does it.now input second old new P)
      → IsSomeAnd command (λ it. Does it.now input second old new Q)
  done_by h = holds_by command (λ it. does_by it.now input second old new P Q by) h

  -- what was refused
  pub refused_by :
      IsSomeAnd command (λ it. Refuses it.now input second old new P)
      → IsSomeAnd command (λ it. Refuses it.now input second old new Q)
  refused_by h = holds_by command (λ it. refuses_by it.now input second old new P Q by) h
