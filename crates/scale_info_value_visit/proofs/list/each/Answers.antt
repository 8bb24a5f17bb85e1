use Rattle.scale_info_value_visit.specs.Reads.{primitive_read}
use Rattle.scale_info_value_visit.proofs.Visiting.{all_left, next_of, none_left, part_shown, part_stops}
use Rattle.scale_info_value_visit.proofs.list.each.Goals as goal

pub loop-init : goal.loop-init
loop-init g c =
    all_left c.args.count (primitive_read c.args.kind.now) c.args.input.now (g.met.V.ValueVisitor.visited_none c.args.visitor.now)

pub loop-preserved : goal.loop-preserved
loop-preserved g c =
    part_shown _ g.met.V.ValueVisitor.visited_append
    (next_of c.args.count c.loop.counter (primitive_read c.args.kind.now) c.loop.rest.now c.loop-test.true c.loop.invariant)
    c.in_ok-rest.ensures

pub returns-in_err-rest : goal.returns-in_err-rest
returns-in_err-rest g c =
    part_stops _ c.from_residual.result c.in_err-rest.field-0.0 g.met.V.ValueVisitor.visited_append
    g.met.V.ValueVisitor.stopped_later c.from_residual.ensures.1
    (next_of c.args.count c.loop.counter (primitive_read c.args.kind.now) c.loop.rest.now c.loop-test.true c.loop.invariant)
    c.in_err-rest.ensures

pub returns : goal.returns
returns g c =
    none_left c.args.count c.loop.counter (primitive_read c.args.kind.now) c.loop-test.false c.loop.invariant
