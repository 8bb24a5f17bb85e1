use Rattle.std.proofs.Common.{ap, ◌∙◌, replicate}
use Rattle.scale_info_value.specs.declared.value.Value.TheVariants as Values
use Rattle.scale_info_value.specs.Outcomes.{outcome_map, in_turn}
use Rattle.scale_info_value.proofs.Errors.{failed_as}
use Rattle.scale_info_value_borrowed.proofs.list.primitives.Goals as goal

pub returns-in_err-integers-in-Some-clause-err : goal.returns-in_err-integers-in-Some-clause-err
returns-in_err-integers-in-Some-clause-err c =
    failed_as c.from_residual.result c.in_err-integers-in-Some.field-0.0 c.from_residual.ensures.1 _
    (ap (λ read. in_turn (replicate c.args.count read) c.args.input.now) (λ i bytes. c.in-Some.ensures bytes i)
    ∙ c.in_err-integers-in-Some.ensures.err)

pub returns-in_ok-integers-in-Some-clause-ok : goal.returns-in_ok-integers-in-Some-clause-ok
returns-in_ok-integers-in-Some-clause-ok c =
    ap (λ read. outcome_map Values.List (in_turn (replicate c.args.count read) c.args.input.now))
    (λ i bytes. c.in-Some.ensures bytes i)
    ∙ c.in_ok-integers-in-Some.ensures.ok
