use Rattle.std.proofs.Common.{ap, []}
use Rattle.scale_info_value.specs.PrimitiveValues.{owned_value}
use Rattle.scale_info_value_visit.specs.Events.{events_of}
use Rattle.scale_info_value_visit.specs.Reads.{shows, with_value}
use Rattle.scale_info_value_visit.proofs.Visiting.{starts, at_same, at_end, next_shown, next_refused, ended, failure_passed, by_answer, took, refused}
use Rattle.scale_info_value_visit.proofs.list.primitive.Goals as goal

pub returns : goal.returns
returns g c =
    ended (next_shown g.met.V.ValueVisitor.visited_append
    (at_end (at_same (ap (λ o. with_value o (λ value rest. shows (events_of value) rest)) c.in_ok-value.ensures.ok)
    (starts _ (g.met.V.ValueVisitor.visited_none c.args.visitor.now))))
    (by_answer _ c.in_ok-shown.ensures.ok (took g.V.ValueVisitor.visited g.V.ValueVisitor.stopped _ _ _ c.show.result c.show.ensures)))

pub returns-in_err-value : goal.returns-in_err-value
returns-in_err-value g c =
    failure_passed c.from_residual.result c.in_err-value.field-0.0
    (g.met.V.ValueVisitor.visited_none c.args.visitor.now) c.from_residual.ensures.1
    (ap (λ o. with_value o (λ value rest. shows (events_of value) rest)) c.in_err-value.ensures.err)

pub returns-in_err-shown : goal.returns-in_err-shown
returns-in_err-shown g c =
    next_refused (events_of (owned_value c.in_ok-value.value)) (shows [] c.in_ok-value.rest.now) _ c.from_residual-in_err-shown.result c.in_err-shown.field-0.0 c.show.result
    g.met.V.ValueVisitor.visited_append g.met.V.ValueVisitor.stopped_later c.from_residual-in_err-shown.ensures.1
    c.in_err-shown.ensures.err
    (at_end (at_same (ap (λ o. with_value o (λ value rest. shows (events_of value) rest)) c.in_ok-value.ensures.ok)
    (starts _ (g.met.V.ValueVisitor.visited_none c.args.visitor.now))))
    (refused g.V.ValueVisitor.visited g.V.ValueVisitor.stopped _ _ _ c.show.result c.show.ensures)
