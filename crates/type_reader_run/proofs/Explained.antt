-- What a line on the writer for errors says.
use Rattle.std.proofs.Common.{◌≡◌, ◌≢◌, ◌≤◌, ◌<◌, ◌+◌, ◌/◌, ◌%◌, ◌++◌, ℕ, zero, suc, List, [], ◌∷◌, Bool}
use Rattle.std.proofs.Common.{Bor, None, Option, Some, ap, arith, codes, cond, decimal, eqb, false, flat_map, get_or}
use Rattle.std.proofs.Common.{inl, inr, lt-ltb, mod-lt, refl, subst, sym, true}
use Rattle.std.proofs.lemmas.List.Concat.{flat_map-cons}
use Rattle.std.specs.Prelude.{IsSomeAnd}
use Rattle.std.specs.Fmt.{digit_glyph, digits, digits_onto}
use Rattle.type_reader_io.proofs.Pieces.{AreBadLines, Pieces, last_reported, not_bad_lines}
use Rattle.type_reader_io.proofs.Pieces.{not_nothing, not_of_letter, reported_pieces}
use Rattle.type_reader_io.specs.Lines.{HasSmallNumber, line_of, usage_line}
use Rattle.type_reader_io.specs.Reports.{ReportsEach, texts_of}
use Rattle.type_reader_io.specs.declared.command.Command.{Command}
use Rattle.type_reader_io.specs.declared.command.Command.TheVariants as commands
use Rattle.type_reader_io.specs.declared.command.Request.{Request}
use Rattle.type_reader_io.specs.declared.command.Request.TheVariants as requests
use Rattle.type_reader_io.specs.declared.error.ReaderError.{ReaderError}
use Rattle.type_reader_io.specs.declared.error.ReaderError.TheVariants as errors
use Rattle.type_reader_lines.specs.Outcomes.{Outcome, bad, made, reports_from}
use Rattle.type_reader_run.specs.Outputs.{OutputsOf, id_line}
use Rattle.type_reader_run.specs.Runs.{Does, IsSo, Refuses, bad_lines}
use Rattle.type_reader_lines.specs.Outcomes.{ExplainsStop}
use Rattle.type_reader_run.specs.Runs.{has_changes, no_type, not_compared, stopped}
use Rattle.type_table_io.specs.Reports.{AppendsPrefix, Reported}

-- the first letter of a report, 116, is not that of these bytes
abbrev IsOther : List ℕ → Type 0
IsOther bytes = get_or bytes 0 0 ≢ 116

other_first : (xs ys : List ℕ) → IsOther xs → IsOther ys → IsOther (xs ++ ys)
other_first [] ys one two = two
other_first (x ∷ xs) ys one two = one

-- a decimal digit is another
other_glyph : (n : ℕ) → digit_glyph false (n % 10) ≢ 116
other_glyph n is =
    let small : n % 10 < 10 = mod-lt n (omega arith) in
    let shown : digit_glyph false (n % 10) ≡ 48 + n % 10 =
    ap (λ b. cond b (48 + n % 10) (87 + n % 10)) (lt-ltb (n % 10) 10 small) in
    omega (arith, small, shown, is)

other_onto : (k n : ℕ) (ds : List ℕ) → IsOther ds → IsOther (digits_onto k 10 false n ds)
other_onto zero n ds other = other
other_onto (suc k) n ds other =
    at (eqb (n / 10) 0) (other_onto k (n / 10) (digit_glyph false (n % 10) ∷ ds) (other_glyph n))
  where
    at :
        (b : Bool) → IsOther (digits_onto k 10 false (n / 10) (digit_glyph false (n % 10) ∷ ds))
        → IsOther
        (cond b (digit_glyph false (n % 10) ∷ ds)
        (digits_onto k 10 false (n / 10) (digit_glyph false (n % 10) ∷ ds)))
    at true more = other_glyph n
    at false more = more

other_decimal : (n : ℕ) → IsOther (decimal n)
unfolding digits
other_decimal n = other_onto 64 n [] (λ h. omega (arith, h))

other_id_line : (ids : ℕ × ℕ) → IsOther (id_line ids)
other_id_line ids =
    other_first (decimal ids.0 ++ codes " -> " ++ decimal ids.1) (codes "\n")
    (other_first (decimal ids.0 ++ codes " -> ") (decimal ids.1)
    (other_first (decimal ids.0) (codes " -> ") (other_decimal ids.0) (λ h. omega (arith, h)))
    (other_decimal ids.1))
    (λ h. omega (arith, h))

other_lines : (ids : List (ℕ × ℕ)) → IsOther (flat_map id_line ids)
other_lines [] = λ h. omega (arith, h)
other_lines (pair ∷ ids) =
    subst IsOther (sym (flat_map-cons id_line pair ids))
    (other_first (id_line pair) (flat_map id_line ids) (other_id_line pair) (other_lines ids))

no_notes : (notes : List ℕ) → notes ≡ [] → IsOther notes
no_notes notes none = subst IsOther (sym none) (λ h. omega (arith, h))

-- so it is with all notes
other_notes :
    (request : Request) (line table output notes : List ℕ) → IsOther line
    → OutputsOf request line table output notes → IsOther notes
other_notes requests.Table line table output notes other h = subst IsOther (sym h.1) other
other_notes requests.Strip line table output notes other h = subst IsOther (sym h.1) other
other_notes (requests.List texts) line table output notes other h = no_notes notes h.1
other_notes (requests.Find pattern) line table output notes other h = no_notes notes h.1
other_notes (requests.Prune texts) line table output notes other h =
    subst IsOther (sym h.pruned.lines) (other_lines h.pruned.new_ids.entries)
other_notes (requests.Graph texts) line table output notes other h = no_notes notes h.1
other_notes (requests.Convert conversion text value) line table output notes other h =
    no_notes notes h.1

-- notes report no error
not_notes :
    (error : ReaderError) (notes : List ℕ) → IsOther notes
    → Pieces (line_of error) (texts_of notes) → ⊥
not_notes error [] other pieces = not_nothing error pieces
not_notes error (byte ∷ notes) other pieces = not_of_letter error (byte ∷ notes) other pieces

-- the reports of lines are of bad lines
are_bad : (number : ℕ) (outcomes : List Outcome) → AreBadLines (reports_from number outcomes)
are_bad number [] = tt
are_bad number (made output ∷ outcomes) = are_bad (number + 1) outcomes
are_bad number (bad fault ∷ outcomes) =
    ((number, fault, refl), are_bad (number + 1) outcomes)

small_stop :
    (old new : Option (List ℕ)) (outputs : List ℕ) (error : ReaderError)
    → ExplainsStop old new outputs error → HasSmallNumber error
small_stop old new outputs errors.Memory h = tt
small_stop old new outputs errors.Input h = tt
small_stop old new outputs errors.Output h = tt
small_stop old new outputs errors.Malformed h = tt
small_stop old new outputs errors.TrailingBytes h = tt
small_stop old new outputs (errors.Version version) h = absurd h
small_stop old new outputs (errors.NoSuchType id) h = absurd h
small_stop old new outputs (errors.NoSuchPath path) h = tt
small_stop old new outputs (errors.SharedPath path) h = tt
small_stop old new outputs (errors.NoValue fault) h = tt
small_stop old new outputs (errors.Dangling id) h = absurd h

-- a command that was done reported no error
not_done :
    (command : Command) (input second old new told_old told_new : Option (List ℕ))
    (error : ReaderError)
    → Does command input second old new (ReportsEach AppendsPrefix told_old told_new)
    → Reported told_old told_new (line_of error) → ⊥
not_done (commands.Once request) input second old new told_old told_new error does reported =
    let made = does.writes.writes.has_output in
    not_notes error does.notes
    (other_notes request _ made.table _ does.notes (λ h. omega (arith, h)) made.outputs)
    (reported_pieces told_old told_new _ (line_of error) does.reports reported)
not_done (commands.Lines conversion text) input second old new told_old told_new error does reported =
    not_bad_lines error _ (are_bad 1 does.outcomes)
    (reported_pieces told_old told_new _ (line_of error) does.reports reported)
not_done (commands.Diff comparison) input second old new told_old told_new error does reported =
    not_nothing error (reported_pieces told_old told_new [] (line_of error) does.1 reported)

-- an error that was reported where the command is refused
so_of_lines :
    (command : Command) (input second old new told_old told_new : Option (List ℕ))
    (error : ReaderError) → HasSmallNumber error
    → Refuses command input second old new (ReportsEach AppendsPrefix told_old told_new)
    → Reported told_old told_new (line_of error) → IsSo command input second old new error
so_of_lines (commands.Once request) input second old new told_old told_new error small refuses reported = (
  refuses.error,
  last_reported error refuses.error [] refuses.small small tt
      (reported_pieces told_old told_new (line_of refuses.error ∷ []) (line_of error) refuses.reports reported),
  refuses.explains,
)
so_of_lines (commands.Lines conversion text) input second old new told_old told_new error small (no_type {error = cause} small_cause without reports) reported = (
  cause,
  last_reported error cause [] small_cause small tt
      (reported_pieces told_old told_new (line_of cause ∷ []) (line_of error) reports reported),
  inl without,
)
so_of_lines (commands.Lines conversion text) input second old new told_old told_new error small (bad_lines all) reported =
    absurd
    (not_bad_lines error _ (are_bad 1 all.outcomes)
    (reported_pieces told_old told_new _ (line_of error) all.reports reported))
so_of_lines (commands.Lines conversion text) input second old new told_old told_new error small (stopped {outcomes = outcomes} {error = cause} stops reports) reported = (
  cause,
  last_reported error cause (reports_from 1 outcomes)
      (small_stop old new _ cause stops.explains) small (are_bad 1 outcomes)
      (reported_pieces told_old told_new _ (line_of error) reports reported),
  inr (outcomes, stops),
)
so_of_lines (commands.Diff comparison) input second old new told_old told_new error small (has_changes writes reports) reported =
    absurd
    (not_nothing error (reported_pieces told_old told_new [] (line_of error) reports reported))
so_of_lines (commands.Diff comparison) input second old new told_old told_new error small (not_compared cause small_cause explains reports) reported = (
  cause,
  last_reported error cause [] small_cause small tt
      (reported_pieces told_old told_new (line_of cause ∷ []) (line_of error) reports reported),
  explains,
)

-- an error whose line was reported is so, by what is known of each status
pub explained :
    (status : ℕ) (command : Option (Bor Command))
    (input second old new told_old told_new : Option (List ℕ)) (error : ReaderError)
    → HasSmallNumber error → status ≤ 2
    → (status ≡ 0
    → IsSomeAnd command (λ it.
    Does it.now input second old new (ReportsEach AppendsPrefix told_old told_new)))
    → (status ≡ 1
    → IsSomeAnd command (λ it.
    Refuses it.now input second old new (ReportsEach AppendsPrefix told_old told_new)))
    → (status ≡ 2 → AppendsPrefix told_old told_new usage_line)
    → Reported told_old told_new (line_of error)
    → IsSomeAnd command (λ it. IsSo it.now input second old new error)
explained zero None input second old new told_old told_new error small bound done refused usage reported =
    absurd (done refl)
explained zero (Some it) input second old new told_old told_new error small bound done refused usage reported =
    absurd (not_done it.now input second old new told_old told_new error (done refl) reported)
explained (suc zero) None input second old new told_old told_new error small bound done refused usage reported =
    absurd (refused refl)
explained (suc zero) (Some it) input second old new told_old told_new error small bound done refused usage reported =
    so_of_lines it.now input second old new told_old told_new error small (refused refl) reported
explained (suc (suc zero)) command input second old new told_old told_new error small bound done refused usage reported =
    absurd
    (not_of_letter error usage_line (λ h. omega (arith, h))
    (reported_pieces told_old told_new (usage_line ∷ []) (line_of error)
    (told_new, usage refl, refl) reported))
explained (suc (suc (suc status))) command input second old new told_old told_new error small bound done refused usage reported =
    absurd (omega (arith, bound))
