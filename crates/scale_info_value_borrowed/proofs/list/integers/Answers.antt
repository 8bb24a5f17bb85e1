use Rattle.std.proofs.Common.{ap, sym, ◌∙◌, arith}
use Rattle.std.proofs.lemmas.Grind.{common_steps}
use Rattle.scale_info_value.specs.declared.value.Value.TheVariants as Values
use Rattle.scale_info_value.specs.Outcomes.{outcome_map, decoded}
use Rattle.scale_info_value_borrowed.proofs.InBytes.{integers_there, integers_short}
use Rattle.scale_info_value_borrowed.proofs.list.integers.Goals as goal

pub returns-in_err-bytes-clause-err : goal.returns-in_err-bytes-clause-err
returns-in_err-bytes-clause-err c =
    let h = integers_short c.args.width c.args.signed c.args.count c.args.input.now c.in_err-bytes.field-0.0
    (rw (← c.bytes.ensures) c.in_err-bytes.ensures.err) in
    grind (arith, common_steps, h)

pub returns-clause-ok : goal.returns-clause-ok
returns-clause-ok c =
    ap (λ o. outcome_map Values.List o)
    (integers_there c.args.width c.args.signed c.args.count c.args.input.now c.in_ok-bytes.bytes.now
    c.in_ok-bytes.rest.now (rw (← c.bytes.ensures) c.in_ok-bytes.ensures.ok))
    ∙ ap (λ v. decoded v c.in_ok-bytes.rest.now) (sym c.list_of.ensures)
