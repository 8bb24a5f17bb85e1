-- Lines that were converted, and then others.
use Rattle.std.proofs.Common.{◌≡◌, ◌≢◌, ◌+◌, ◌++◌, ◌∙◌, ◌&&◌, ℕ, List, [], ◌∷◌, Bool, Option}
use Rattle.std.proofs.Common.{None, Some, IfSome, ap, append-nil, append_assoc, arith, flat_map}
use Rattle.std.proofs.Common.{inl, inr, length, length-append, refl, subst, sym, true, false, take}
use Rattle.std.proofs.Common.{◌==◌, OnSome, drop, eqb-true, suc, take-append-drop}
use Rattle.std.proofs.KnownBytes.{Appends-nil, Appends-trans, Consumes-trans}
use Rattle.std.proofs.Math.Seq.{take-append_seam}
use Rattle.std.proofs.lemmas.Grind.{flat_map-append}
use Rattle.std.specs.Io.KnownBytes.{Appends, Consumes, IsAtEnd}
use Rattle.std.specs.Str.Lines.{lines, strip_carriage_return}
use Rattle.type_reader_io.proofs.Lines.{lines_at_feed}
use Rattle.type_reader_io.specs.Inputs.{IsReadError, IsWithoutFeed}
use Rattle.type_reader_io.specs.Lines.{bad_line}
use Rattle.type_reader_io.specs.Reports.{ReportsEach}
use Rattle.type_reader_io.specs.declared.error.LineError.TheVariants as line_errors
use Rattle.type_reader_io.specs.declared.error.ReaderError.{ReaderError}
use Rattle.type_reader_io.specs.declared.error.ReaderError.TheVariants as errors
use Rattle.type_reader_io.specs.declared.error.ValueFault.{ValueFault}
use Rattle.type_reader_lines.proofs.Outcomes.{good_then, outcomes_then, reports_then}
use Rattle.type_reader_io.proofs.Reports.{each_then}
use Rattle.type_reader_lines.specs.Conversions.{AppendsLine, IsLine, IsLineError}
use Rattle.type_reader_lines.specs.Outcomes.{AreOutcomes, are_good}
use Rattle.type_reader_lines.specs.Outcomes.{Outcome, bad, made, output_of, reports_from}
use Rattle.type_reader_lines.specs.Outcomes.{ExplainsStop}
use Rattle.type_reader_lines.specs.Steps.{Converts, HasConvertedAll, HasConvertedRead}
use Rattle.type_reader_lines.specs.Outcomes.{HasConvertedLines, HasStopped}
use Rattle.type_reader_lines.specs.Steps.{HasStoppedRead, HasWritten, IsFirst, IsLeft}
use Rattle.type_reader_lines.specs.Steps.{Stops}
use Rattle.type_reader_lines.specs.declared.convert.Converter.{Converter}
use Rattle.type_reader_lines.specs.declared.lines.Progress.{Progress}
use Rattle.type_table_io.specs.Reports.{AppendsPrefix}

-- of what is pending nothing was written
pub none_written : {pending : List ℕ} {now : Option (List ℕ)} → HasWritten pending pending now now
none_written {now = now} = record { written = []; appends = Appends-nil now; parts = refl }

-- what was pending was written in part, and then what was left of it
written_on :
    {pending waiting left : List ℕ} {old now new : Option (List ℕ)}
    → HasWritten pending waiting old now → HasWritten waiting left now new
    → HasWritten pending left old new
written_on {left = left} {old = old} {now = now} {new = new} first second = record {
  written = first.written ++ second.written;
  appends = Appends-trans old now new _ _ first.appends second.appends;
  parts =
      first.parts
      ∙ ap (λ l. first.written ++ l) second.parts
      ∙ sym (append_assoc first.written second.written left);
}

-- what was pending was written in part, and then a prefix of what was left
written_in_part :
    {pending waiting : List ℕ} {old now new : Option (List ℕ)}
    → HasWritten pending waiting old now → (prefix : AppendsPrefix now new waiting)
    → HasWritten pending (drop prefix.count waiting) old new
written_in_part {waiting = waiting} first prefix =
    written_on first
    (record {
      written = take prefix.count waiting;
      appends = prefix.appends;
      parts = sym (take-append-drop prefix.count waiting);
    })

-- some more became pending
written_more :
    (pending left more : List ℕ) {old new : Option (List ℕ)} → HasWritten pending left old new
    → HasWritten (pending ++ more) (left ++ more) old new
written_more pending left more h = record {
  written = h.written;
  appends = h.appends;
  parts = ap (λ l. l ++ more) h.parts ∙ append_assoc h.written left more;
}

-- what is pending where there is no output of a line
no_output :
    {pending left : List ℕ} {old new : Option (List ℕ)} → HasWritten pending left old new
    → HasWritten (pending ++ []) left old new
no_output {pending = pending} {left = left} {old = old} {new = new} =
    subst (λ l. HasWritten l left old new) (sym (append-nil pending))

and_same : (a b : Bool) → b ≡ a → b ≡ (a && true)
and_same true b is = is
and_same false b is = is

and_none : (a b : Bool) → b ≡ false → b ≡ (a && false)
and_none true b is = is
and_none false b is = is

both_good : (a b c d e : Bool) → b ≡ (a && d) → c ≡ (b && e) → c ≡ (a && (d && e))
both_good true b c d e is then = then ∙ ap (λ x. x && e) is
both_good false b c d e is then = then ∙ ap (λ x. x && e) is

-- what was pending and the outputs of lines were written in part, and then those of others
both_written :
    (pending : List ℕ) (outcomes others : List Outcome) {left last : List ℕ}
    {old now new : Option (List ℕ)}
    → HasWritten (pending ++ flat_map output_of outcomes) left old now
    → HasWritten (left ++ flat_map output_of others) last now new
    → HasWritten (pending ++ flat_map output_of (outcomes ++ others)) last old new
both_written pending outcomes others {left = left} {last = last} {old = old} {new = new} first
    second =
    subst (λ l. HasWritten l last old new)
    (append_assoc pending (flat_map output_of outcomes) (flat_map output_of others)
    ∙ ap (λ l. pending ++ l) (sym (flat_map-append output_of outcomes others)))
    (written_on (written_more _ left (flat_map output_of others) first) second)

-- it was reported which lines are bad, and then which of others
both_reported :
    {T : Type 0} (reported : T → T → List ℕ → Type 0) (old middle new : T) (number last : ℕ)
    (outcomes others : List Outcome) → last ≡ number + length outcomes
    → ReportsEach reported old middle (reports_from number outcomes)
    → ReportsEach reported middle new (reports_from last others)
    → ReportsEach reported old new (reports_from number (outcomes ++ others))
both_reported reported old middle new number last outcomes others is first second =
    subst (ReportsEach reported old new) (sym (reports_then number last outcomes others is))
    (each_then reported old middle new _ _ first second)

-- what was done of an input, and then more of it
module _ {T : Type 0} {reported : T → T → List ℕ → Type 0} {converter : Converter}
    {before middle after : Progress} {old now new : Option (List ℕ)}
    {told_old told_now told_new : T} where
  -- the first values were converted, and then others
  pub converts_then :
      {values more : List (List ℕ)}
      → Converts converter values before middle old now (ReportsEach reported told_old told_now)
      → Converts converter more middle after now new (ReportsEach reported told_now told_new)
      → Converts converter (values ++ more) before after old new
      (ReportsEach reported told_old told_new)
  converts_then {values = values} {more = more} first second =
      let counts = length-append first.outcomes second.outcomes in
      record {
        outcomes = first.outcomes ++ second.outcomes;
        are_outcomes =
            outcomes_then converter.conversion converter.registry converter.id values more
            first.outcomes second.outcomes first.are_outcomes second.are_outcomes;
        writes =
            both_written before.pending.items first.outcomes second.outcomes first.writes
            second.writes;
        reports =
            both_reported reported told_old told_now told_new (before.count + 1)
            (middle.count + 1) first.outcomes second.outcomes (omega (arith, first.counts))
            first.reports second.reports;
        counts = omega (arith, counts, first.counts, second.counts);
        good =
            both_good before.is_good middle.is_good after.is_good _ _ first.good second.good
            ∙ ap (λ b. before.is_good && b) (sym (good_then first.outcomes second.outcomes));
      }

  -- the first values were converted, and then there was an error among others
  pub stops_then :
      {values more : List (List ℕ)} {error : ReaderError}
      → Converts converter values before middle old now (ReportsEach reported told_old told_now)
      → Stops converter more middle after now new (ReportsEach reported told_now told_new) error
      → Stops converter (values ++ more) before after old new
      (ReportsEach reported told_old told_new) error
  stops_then {values = values} {more = more} first second = record {
    outcomes = first.outcomes ++ second.outcomes;
    are_outcomes =
        outcomes_then converter.conversion converter.registry converter.id values more
        first.outcomes second.outcomes first.are_outcomes second.are_outcomes;
    left = second.left;
    writes =
        both_written before.pending.items first.outcomes second.outcomes first.writes
        second.writes;
    is_left = second.is_left;
    reports =
        both_reported reported told_old told_now told_new (before.count + 1) (middle.count + 1)
        first.outcomes second.outcomes (omega (arith, first.counts)) first.reports
        second.reports;
  }

  -- bytes were read, and then others
  pub read_then :
      {first last final : Option (List ℕ)} {start line next : List ℕ}
      → HasConvertedRead converter first last start line before middle old now
      (ReportsEach reported told_old told_now)
      → HasConvertedRead converter last final line next middle after now new
      (ReportsEach reported told_now told_new)
      → HasConvertedRead converter first final start next before after old new
      (ReportsEach reported told_old told_new)
  read_then {first = first} {last = last} {final = final} {start = start} {next = next} one two =
      record {
        read = one.read ++ two.read;
        consumes = Consumes-trans first last final one.read two.read one.consumes two.consumes;
        values = one.values ++ two.values;
        are_lines = λ rest.
            ap (λ l. lines (start ++ l)) (append_assoc one.read two.read rest)
            ∙ one.are_lines (two.read ++ rest)
            ∙ ap (λ l. one.values ++ l) (two.are_lines rest)
            ∙ sym (append_assoc one.values two.values (lines (next ++ rest)));
        converts = converts_then one.converts two.converts;
      }

  -- bytes were read, and then there was an error
  pub stopped_after :
      {first last : Option (List ℕ)} {start line : List ℕ} {error : ReaderError}
      → HasConvertedRead converter first last start line before middle old now
      (ReportsEach reported told_old told_now)
      → HasStoppedRead converter last line middle after now new
      (ReportsEach reported told_now told_new) error
      → HasStoppedRead converter first start before after old new
      (ReportsEach reported told_old told_new) error
  stopped_after {first = first} {last = last} {start = start} {line = line} one stop = record {
    values = one.values ++ stop.values;
    are_first = of_all first last one.consumes stop.are_first;
    stops = stops_then one.converts stop.stops;
  }
    where
      of_all :
          (known left : Option (List ℕ)) → Consumes known left one.read
          → IfSome left (λ bytes.
          (more : List (List ℕ)) × (lines (line ++ bytes) ≡ stop.values ++ more))
          → IfSome known (λ bytes.
          (more : List (List ℕ))
          × (lines (start ++ bytes) ≡ (one.values ++ stop.values) ++ more))
      of_all None left consumes next = tt
      of_all (Some bytes) None consumes next = absurd consumes
      of_all (Some bytes) (Some rest) consumes next = (
        next.0,
        ap (λ l. lines (start ++ l)) consumes ∙ one.are_lines rest
            ∙ ap (λ l. one.values ++ l) next.1
            ∙ sym (append_assoc one.values stop.values next.0),
      )

  -- bytes were read, and then all that was left
  pub all_after :
      {first last final : Option (List ℕ)} {start line : List ℕ}
      → HasConvertedRead converter first last start line before middle old now
      (ReportsEach reported told_old told_now)
      → HasConvertedAll converter last final line middle after now new
      (ReportsEach reported told_now told_new)
      → HasConvertedAll converter first final start before after old new
      (ReportsEach reported told_old told_new)
  all_after {first = first} {last = last} {final = final} {start = start} {line = line} one all =
      record {
        values = one.values ++ all.values;
        are_lines = of_all first last one.consumes all.are_lines;
        end = at_end first last one.consumes all.end;
        converts = converts_then one.converts all.converts;
      }
    where
      of_all :
          (known left : Option (List ℕ)) → Consumes known left one.read
          → IfSome left (λ bytes. all.values ≡ lines (line ++ bytes))
          → IfSome known (λ bytes. one.values ++ all.values ≡ lines (start ++ bytes))
      of_all None left consumes are = tt
      of_all (Some bytes) None consumes are = absurd consumes
      of_all (Some bytes) (Some rest) consumes are =
          ap (λ l. one.values ++ l) are
          ∙ sym (ap (λ l. lines (start ++ l)) consumes ∙ one.are_lines rest)

      at_end :
          (known left : Option (List ℕ)) → Consumes known left one.read
          → IfSome left (λ bytes. final ≡ Some [])
          → IfSome known (λ bytes. final ≡ Some [])
      at_end None left consumes end = tt
      at_end (Some bytes) None consumes end = absurd consumes
      at_end (Some bytes) (Some rest) consumes end = end

-- what was done of no line, or of one
module _ {converter : Converter} {IsReported : List (List ℕ) → Type 0} where
  -- no value was converted, and what was pending was written in part
  pub converts_none :
      {before after : Progress} {old new : Option (List ℕ)}
      → HasWritten before.pending.items after.pending.items old new
      → after.count ≡ before.count → after.is_good ≡ before.is_good → IsReported []
      → Converts converter [] before after old new IsReported
  converts_none {before = before} {after = after} written count good reports = record {
    outcomes = [];
    are_outcomes = tt;
    writes = no_output written;
    reports = reports;
    counts = omega (arith, count);
    good = and_same before.is_good after.is_good good;
  }

  -- bytes were read that end no line, and what was pending was written in part
  pub part_read :
      {second last : Option (List ℕ)} (bytes : List ℕ) {start line : List ℕ}
      {before after : Progress} {old new : Option (List ℕ)}
      → Consumes second last bytes → line ≡ start ++ bytes
      → HasWritten before.pending.items after.pending.items old new
      → after.count ≡ before.count → after.is_good ≡ before.is_good → IsReported []
      → HasConvertedRead converter second last start line before after old new IsReported
  part_read bytes {start = start} consumes is written count good reports = record {
    read = bytes;
    consumes = consumes;
    values = [];
    are_lines = λ rest.
        ap lines (sym (append_assoc start bytes rest) ∙ ap (λ l. l ++ rest) (sym is));
    converts = converts_none written count good reports;
  }

  -- a line was read to its line feed, and converted
  pub line_read :
      {second last : Option (List ℕ)} (end : List ℕ) {start line value : List ℕ}
      {before after : Progress} {old new : Option (List ℕ)}
      → Consumes second last (end ++ 10 ∷ []) → line ≡ start ++ end → IsWithoutFeed line
      → value ≡ strip_carriage_return line
      → Converts converter (value ∷ []) before after old new IsReported
      → HasConvertedRead converter second last start [] before after old new IsReported
  line_read end {start = start} {line = line} {value = value} consumes is without stripped converts =
      record {
        read = end ++ 10 ∷ [];
        consumes = consumes;
        values = value ∷ [];
        are_lines = λ rest.
            ap (λ l. lines (start ++ l)) (append_assoc end (10 ∷ []) rest)
            ∙ ap lines (sym (append_assoc start end (10 ∷ rest)))
            ∙ ap (λ l. lines (l ++ 10 ∷ rest)) (sym is)
            ∙ lines_at_feed line rest without
            ∙ ap (λ l. l ∷ lines rest) (sym stripped);
        converts = converts;
      }

  -- nothing was left to be read, and what was read of the last line was converted
  pub end_read :
      {second last : Option (List ℕ)} {start line : List ℕ} {values : List (List ℕ)}
      {before after : Progress} {old new : Option (List ℕ)}
      → Consumes second last [] → OnSome second (IsAtEnd last) → line ≡ start
      → values ≡ lines line
      → Converts converter values before after old new IsReported
      → HasConvertedAll converter second last start before after old new IsReported
  end_read {second = second} {last = last} {start = start} {line = line} {values = values} consumes ended is are converts =
      record {
        values = values;
        are_lines = of_all second last consumes ended;
        end = at_end second last consumes ended;
        converts = converts;
      }
    where
      of_all :
          (known left : Option (List ℕ)) → Consumes known left [] → OnSome known (IsAtEnd left)
          → IfSome known (λ bytes. values ≡ lines (start ++ bytes))
      of_all None left consumes none = tt
      of_all (Some bytes) None consumes none = absurd consumes
      of_all (Some bytes) (Some left) consumes none =
          are
          ∙ ap lines
          (is ∙ sym (append-nil start) ∙ ap (λ l. start ++ l) (sym (consumes ∙ none)))

      at_end :
          (known left : Option (List ℕ)) → Consumes known left [] → OnSome known (IsAtEnd left)
          → IfSome known (λ bytes. left ≡ Some [])
      at_end None left consumes none = tt
      at_end (Some bytes) None consumes none = absurd consumes
      at_end (Some bytes) (Some left) consumes none = ap Some none

  -- an error at once
  pub stopped_reading :
      {second : Option (List ℕ)} {start : List ℕ} {before after : Progress}
      {old new : Option (List ℕ)} {error : ReaderError}
      → Stops converter [] before after old new IsReported error
      → HasStoppedRead converter second start before after old new IsReported error
  stopped_reading {second = second} {start = start} stops = record {
    values = [];
    are_first = any second;
    stops = stops;
  }
    where
      any :
          (known : Option (List ℕ))
          → IfSome known (λ bytes. (more : List (List ℕ)) × (lines (start ++ bytes) ≡ [] ++ more))
      any None = tt
      any (Some bytes) = (lines (start ++ bytes), refl)

  -- a write of what is pending failed
  pub stops_at_write :
      {before after : Progress} {pending : List ℕ} {old new : Option (List ℕ)}
      {error : ReaderError}
      → pending ≡ before.pending.items → AppendsPrefix old new pending → error ≡ errors.Output
      → IsReported []
      → Stops converter [] before after old new IsReported error
  stops_at_write {before = before} {old = old} {new = new} same prefix is reports =
      let last : AppendsPrefix old new before.pending.items =
      subst (AppendsPrefix old new) same prefix in
      record {
        outcomes = [];
        are_outcomes = tt;
        left = drop last.count before.pending.items;
        writes = no_output (written_in_part none_written last);
        is_left = inr is;
        reports = reports;
      }

  -- what is pending stays so at an error that is none of a write
  pub stops_kept :
      {before after : Progress} {now : Option (List ℕ)} {error : ReaderError}
      → after.pending.items ≡ before.pending.items → IsReadError error → IsReported []
      → Stops converter [] before after now now IsReported error
  stops_kept {before = before} same cause reports = record {
    outcomes = [];
    are_outcomes = tt;
    left = before.pending.items;
    writes = no_output none_written;
    is_left = inl (cause, sym same);
    reports = reports;
  }

  -- the output of a line became pending
  pub made_one :
      {line : List ℕ} {before after : Progress} {now : Option (List ℕ)}
      → AppendsLine (IsLine converter.conversion converter.registry converter.id line)
      before.pending.items after.pending.items
      → after.count ≡ before.count + 1 → after.is_good ≡ before.is_good → IsReported []
      → Converts converter (line ∷ []) before after now now IsReported
  made_one {before = before} {after = after} {now = now} appends counts good reports = record {
    outcomes = made appends.line ∷ [];
    are_outcomes = (appends.is_line, tt);
    writes =
        record {
          written = [];
          appends = Appends-nil now;
          parts =
              ap (λ l. before.pending.items ++ l) (append-nil appends.line)
              ∙ sym appends.parts;
        };
    reports = reports;
    counts = counts;
    good = and_same before.is_good after.is_good good;
  }

  -- what was pending was written, and a line was reported as bad
  pub bad_one :
      {line pending left : List ℕ} (fault : ValueFault) {before after : Progress}
      {old new : Option (List ℕ)}
      → IsLineError converter.conversion converter.registry converter.id line
      (line_errors.Fault fault)
      → pending ≡ before.pending.items → HasWritten pending left old new
      → after.pending.items ≡ left
      → after.count ≡ before.count + 1 → after.is_good ≡ false
      → IsReported (bad_line (before.count + 1) fault ∷ [])
      → Converts converter (line ∷ []) before after old new IsReported
  bad_one {left = left} fault {before = before} {after = after} {old = old} {new = new} cause
      same written is_left counts good reports = record {
        outcomes = bad fault ∷ [];
        are_outcomes = (cause, tt);
        writes =
            no_output
            (subst (λ l. HasWritten before.pending.items l old new) (sym is_left)
            (subst (λ p. HasWritten p left old new) same written));
        reports = reports;
        counts = counts;
        good = and_none before.is_good after.is_good good;
      }

-- a list of length 0 is empty
pub empty_list : (xs : List ℕ) → true ≡ (length xs == 0) → xs ≡ []
empty_list [] is = refl
empty_list (x ∷ xs) is =
    let none : suc (length xs) ≡ 0 = eqb-true (suc (length xs)) 0 (sym is) in absurd (omega (arith, none))

-- and one of another length is not
pub some_list : (xs : List ℕ) → false ≡ (length xs == 0) → xs ≢ []
some_list xs is none = cc (is ∙ ap (λ l. length l == 0) none)

-- the outputs were written in part, or whole
outputs_of :
    {before : Progress} (outputs : List ℕ) {left : List ℕ} {old new : Option (List ℕ)}
    → IsFirst before → HasWritten (before.pending.items ++ outputs) left old new
    → HasWritten outputs left old new
outputs_of outputs {left = left} {old = old} {new = new} first =
    subst (λ l. HasWritten (l ++ outputs) left old new) first.pending

part_written :
    {outputs left : List ℕ} {old new : Option (List ℕ)} → HasWritten outputs left old new
    → AppendsPrefix old new outputs
part_written {left = left} {old = old} {new = new} h = record {
  count = length h.written;
  appends =
      subst (Appends old new)
      (sym (ap (take (length h.written)) h.parts ∙ take-append_seam h.written left)) h.appends;
}

whole_written :
    {outputs waiting left : List ℕ} {old now new : Option (List ℕ)}
    → HasWritten outputs waiting old now → HasWritten waiting left now new → left ≡ []
    → Appends old new outputs
whole_written {old = old} {new = new} first second none =
    let all = written_on first second in
    subst (Appends old new)
    (sym (all.parts ∙ ap (λ l. all.written ++ l) none ∙ append-nil all.written)) all.appends

from_first :
    (IsReported : List (List ℕ) → Type 0) {before : Progress} (outcomes : List Outcome)
    → IsFirst before → IsReported (reports_from (before.count + 1) outcomes)
    → IsReported (reports_from 1 outcomes)
from_first IsReported {before = before} outcomes first =
    subst (λ n. IsReported (reports_from n outcomes))
    (let one : before.count + 1 ≡ 1 = omega (arith, first.count) in one)

-- what was written up to an error that is none of a write
written_before :
    {converter : Converter} {second : Option (List ℕ)} {before after : Progress}
    {old now : Option (List ℕ)} {IsReported : List (List ℕ) → Type 0} {error : ReaderError}
    → IsFirst before → error ≢ errors.Output
    → (stop : HasStoppedRead converter second [] before after old now IsReported error)
    → IsReadError error
    × HasWritten (flat_map output_of stop.stops.outcomes) after.pending.items old now
written_before {after = after} {old = old} {now = now} {error = error} first other stop =
    at stop.stops.left stop.stops.is_left (outputs_of _ first stop.stops.writes)
  where
    at :
        (left : List ℕ) → IsLeft error left after
        → HasWritten (flat_map output_of stop.stops.outcomes) left old now
        → IsReadError error
        × HasWritten (flat_map output_of stop.stops.outcomes) after.pending.items old now
    at left (inl kept) written = (
      kept.0,
      subst (λ l. HasWritten (flat_map output_of stop.stops.outcomes) l old now) kept.1 written,
    )
    at left (inr is) written = absurd (other is)

explained_by :
    (old new : Option (List ℕ)) (outputs : List ℕ) (error : ReaderError) → IsReadError error
    → Appends old new outputs → ExplainsStop old new outputs error
explained_by old new outputs error (inl is) appends =
    subst (ExplainsStop old new outputs) (sym is) appends
explained_by old new outputs error (inr is) appends =
    subst (ExplainsStop old new outputs) (sym is) appends

-- what was done of an input from its first line on
module _ {converter : Converter} {second : Option (List ℕ)} {before : Progress}
    {old new : Option (List ℕ)} {IsReported : List (List ℕ) → Type 0} where
  -- all lines were converted, and their outputs written
  pub all_lines :
      {after : Progress} {last now : Option (List ℕ)} {left : List ℕ}
      → IsFirst before
      → HasConvertedAll converter second last [] before after old now IsReported
      → HasWritten after.pending.items left now new → left ≡ []
      → HasConvertedLines converter second last old new IsReported after.is_good
  all_lines first all written none =
      let done = all.converts in
      record {
        values = all.values;
        are_lines = all.are_lines;
        end = all.end;
        outcomes = done.outcomes;
        are_outcomes = done.are_outcomes;
        appends = whole_written (outputs_of _ first done.writes) written none;
        reports = from_first IsReported done.outcomes first done.reports;
        good = done.good ∙ ap (λ b. b && are_good done.outcomes) first.good;
      }

  -- the first lines were converted, and then there was an error
  stopped_from :
      {error : ReaderError} (values : List (List ℕ)) (outcomes : List Outcome)
      → IsFirst before
      → IfSome second (λ bytes.
      (more : List (List ℕ)) × (lines bytes ≡ values ++ more))
      → AreOutcomes converter.conversion converter.registry converter.id values outcomes
      → IsReported (reports_from (before.count + 1) outcomes)
      → ExplainsStop old new (flat_map output_of outcomes) error
      → HasStopped converter second old new IsReported error
  stopped_from values outcomes first are_first are_outcomes reports explains = record {
    values = values;
    are_first = are_first;
    outcomes = outcomes;
    are_outcomes = are_outcomes;
    explains = explains;
    reports = from_first IsReported outcomes first reports;
  }

  -- all lines were converted, and then a write failed
  pub all_but_written :
      {after : Progress} {last now : Option (List ℕ)} {error : ReaderError}
      → IsFirst before
      → HasConvertedAll converter second last [] before after old now IsReported
      → AppendsPrefix now new after.pending.items → error ≡ errors.Output
      → HasStopped converter second old new IsReported error
  all_but_written first all prefix is =
      let done = all.converts in
      stopped_from all.values done.outcomes first (of_all second all.are_lines) done.are_outcomes
      done.reports
      (subst (ExplainsStop old new (flat_map output_of done.outcomes)) (sym is)
      (part_written (written_in_part (outputs_of _ first done.writes) prefix)))
    where
      of_all :
          (known : Option (List ℕ))
          → IfSome known (λ bytes. all.values ≡ lines bytes)
          → IfSome known (λ bytes.
          (more : List (List ℕ)) × (lines bytes ≡ all.values ++ more))
      of_all None h = tt
      of_all (Some bytes) h = ([], sym (append-nil all.values ∙ h))

  -- the same of the first lines that were converted up to an error
  stopped_by :
      {after : Progress} {now : Option (List ℕ)} {error last : ReaderError}
      → IsFirst before
      → (stop : HasStoppedRead converter second [] before after old now IsReported error)
      → ExplainsStop old new (flat_map output_of stop.stops.outcomes) last
      → HasStopped converter second old new IsReported last
  stopped_by first stop =
      let done = stop.stops in
      stopped_from stop.values done.outcomes first stop.are_first done.are_outcomes done.reports

  -- the first lines were converted, then there was an error, and what was pending was written
  pub stopped_then_written :
      {after : Progress} {now : Option (List ℕ)} {error : ReaderError} {left : List ℕ}
      → IsFirst before → error ≢ errors.Output
      → HasStoppedRead converter second [] before after old now IsReported error
      → HasWritten after.pending.items left now new → left ≡ []
      → HasStopped converter second old new IsReported error
  stopped_then_written first other stop written none =
      let so_far = written_before first other stop in
      stopped_by first stop
      (explained_by old new _ _ so_far.0 (whole_written so_far.1 written none))

  -- the same, and what was pending was not written whole
  pub stopped_then_failed :
      {after : Progress} {now : Option (List ℕ)} {error last : ReaderError}
      → IsFirst before → error ≢ errors.Output
      → HasStoppedRead converter second [] before after old now IsReported error
      → AppendsPrefix now new after.pending.items → last ≡ errors.Output
      → HasStopped converter second old new IsReported last
  stopped_then_failed first other stop prefix is =
      stopped_by first stop
      (subst (ExplainsStop old new (flat_map output_of stop.stops.outcomes)) (sym is)
      (part_written (written_in_part (written_before first other stop).1 prefix)))

  -- the first lines were converted, and then a write failed
  pub stopped_by_write :
      {after : Progress} {error : ReaderError}
      → IsFirst before → HasStoppedRead converter second [] before after old new IsReported error
      → HasStopped converter second old new IsReported errors.Output
  stopped_by_write first stop =
      stopped_by first stop (part_written (outputs_of _ first stop.stops.writes))
