-- What comes of some lines, and then of others.
use Rattle.std.proofs.Common.{◌≡◌, ◌+◌, ◌++◌, ◌&&◌, ℕ, List, [], ◌∷◌, ap, arith, length, refl}
use Rattle.type_reader_io.specs.Lines.{bad_line}
use Rattle.type_reader_io.specs.declared.command.Conversion.{Conversion}
use Rattle.scale_info_table.specs.declared.portable.PortableRegistry.{PortableRegistry}
use Rattle.type_reader_lines.specs.Outcomes.{AreOutcomes, Outcome, are_good, bad, made}
use Rattle.type_reader_lines.specs.Outcomes.{reports_from}

-- outcomes of some values, and then of others, are those of both
pub outcomes_then :
    (conversion : Conversion) (table : PortableRegistry) (id : ℕ) (lines more : List (List ℕ))
    (outcomes others : List Outcome)
    → AreOutcomes conversion table id lines outcomes → AreOutcomes conversion table id more others
    → AreOutcomes conversion table id (lines ++ more) (outcomes ++ others)
outcomes_then conversion table id [] more [] others are then = then
outcomes_then conversion table id [] more (o ∷ outcomes) others are then = absurd are
outcomes_then conversion table id (l ∷ lines) more [] others are then = absurd are
outcomes_then conversion table id (l ∷ lines) more (o ∷ outcomes) others are then =
    (are.0, outcomes_then conversion table id lines more outcomes others are.1 then)

-- the reports of the others come after those of the first
pub reports_then :
    (number last : ℕ) (outcomes others : List Outcome)
    → last ≡ number + length outcomes
    → reports_from number (outcomes ++ others)
    ≡ reports_from number outcomes ++ reports_from last others
reports_then number last [] others is =
    let same : number ≡ last = omega arith in ap (λ n. reports_from n others) same
reports_then number last (made output ∷ outcomes) others is =
    reports_then (number + 1) last outcomes others (omega arith)
reports_then number last (bad fault ∷ outcomes) others is =
    ap (λ l. bad_line number fault ∷ l)
    (reports_then (number + 1) last outcomes others (omega arith))

-- all are good where the first and the others are
pub good_then :
    (outcomes others : List Outcome)
    → are_good (outcomes ++ others) ≡ (are_good outcomes && are_good others)
good_then [] others = refl
good_then (made output ∷ outcomes) others = good_then outcomes others
good_then (bad fault ∷ outcomes) others = refl
