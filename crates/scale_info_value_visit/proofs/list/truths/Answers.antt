use Rattle.std.proofs.Common.{◌-◌, ◌+◌, ◌∷◌, [], ap, ◌∙◌, replicate}
use Rattle.scale_info_primitives.specs.declared.primitive.TypeDefPrimitive.TheVariants as kinds
use Rattle.scale_info_value_visit.specs.Events.{events_of, truth}
use Rattle.scale_info_value_visit.specs.Reads.{shows, with_value, followed_by, each, primitive_read}
use Rattle.scale_info_value_visit.specs.declared.visitor.VisitError.TheVariants as error
use Rattle.scale_info_value_visit.proofs.Events.{truth_events}
use Rattle.scale_info_value_visit.proofs.Visiting.{all_left, next_of, none_left, at_same, next_shown, next_refused, part_stops, fails_first, by_answer}
use Rattle.scale_info_value_visit.proofs.list.truths.Goals as goal

pub loop-init : goal.loop-init
loop-init g c =
    all_left c.args.count (primitive_read kinds.Bool) c.args.input.now (g.met.V.ValueVisitor.visited_none c.args.visitor.now)

pub loop-preserved : goal.loop-preserved
loop-preserved g c =
    let others = each (replicate (c.args.count - (c.loop.counter + 1)) (primitive_read kinds.Bool)) in
    next_shown g.met.V.ValueVisitor.visited_append
    (at_same (ap (λ o. followed_by (with_value o (λ value rest. shows (events_of value) rest)) others) c.in_ok-value.ensures.ok
    ∙ ap (λ es. followed_by (shows es c.in_ok-value.after.now) others) (truth_events c.in_ok-value.value))
    (next_of c.args.count c.loop.counter (primitive_read kinds.Bool) c.loop.rest.now c.loop-test.true c.loop.invariant))
    (by_answer _ c.in_ok-shown.ensures.ok c.truth-in-loop.ensures.ok)

pub returns-in_err-value : goal.returns-in_err-value
returns-in_err-value g c =
    part_stops _ c.from_residual.result (error.Failed c.in_err-value.field-0.0) g.met.V.ValueVisitor.visited_append
    g.met.V.ValueVisitor.stopped_later c.from_residual.ensures.1
    (next_of c.args.count c.loop.counter (primitive_read kinds.Bool) c.loop.rest.now c.loop-test.true c.loop.invariant)
    (fails_first (g.met.V.ValueVisitor.visited_none c.loop.visitor)
    (ap (λ o. with_value o (λ value rest. shows (events_of value) rest)) c.in_err-value.ensures.err))

pub returns-in_err-shown : goal.returns-in_err-shown
returns-in_err-shown g c =
    let others = each (replicate (c.args.count - (c.loop.counter + 1)) (primitive_read kinds.Bool)) in
    next_refused (truth c.in_ok-value.value ∷ []) (others c.in_ok-value.after.now) _ c.from_residual-in_err-shown.result c.in_err-shown.field-0.0 c.truth-in-loop.result
    g.met.V.ValueVisitor.visited_append g.met.V.ValueVisitor.stopped_later c.from_residual-in_err-shown.ensures.1
    c.in_err-shown.ensures.err
    (at_same (ap (λ o. followed_by (with_value o (λ value rest. shows (events_of value) rest)) others) c.in_ok-value.ensures.ok
    ∙ ap (λ es. followed_by (shows es c.in_ok-value.after.now) others) (truth_events c.in_ok-value.value))
    (next_of c.args.count c.loop.counter (primitive_read kinds.Bool) c.loop.rest.now c.loop-test.true c.loop.invariant))
    c.truth-in-loop.ensures.err

pub returns : goal.returns
returns g c =
    none_left c.args.count c.loop.counter (primitive_read kinds.Bool) c.loop-test.false c.loop.invariant
