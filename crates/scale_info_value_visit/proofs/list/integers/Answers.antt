use Rattle.std.proofs.Common.{◌≡◌, ◌∙◌, ◌+◌, ◌-◌, ◌*◌, ◌≤◌, length, arith, sym, subst, ap, replicate}
use Rattle.scale_info_value.specs.PrimitiveValues.{owned_value}
use Rattle.scale_info_value.proofs.Integers.{first_there, still_there}
use Rattle.scale_info_value_visit.specs.Events.{events_of}
use Rattle.scale_info_value_visit.specs.Reads.{shows, with_value, followed_by, each, primitive_read}
use Rattle.scale_info_value_visit.proofs.Visiting.{all_left, next_of, none_left, at_same, next_shown, next_refused, by_answer, took, refused}
use Rattle.scale_info_value_visit.proofs.list.integers.Goals as goal

pub loop-init : goal.loop-init
loop-init g c =
    let all : c.args.count ≡ c.args.count - 0 = omega arith in
    record {
      visiting =
          all_left c.args.count (primitive_read c.args.kind.now) c.args.input.now
          (g.met.V.ValueVisitor.visited_none c.args.visitor.now);
      there = subst (λ n. n * c.bytes-width.result ≤ length c.args.input.now) all c.if-input-count.false;
    }

pub returns : goal.returns
returns g c =
    none_left c.args.count c.loop.counter (primitive_read c.args.kind.now) c.loop-test.false
    c.loop.invariant.visiting

pub split_integer-requires : goal.split_integer-requires
split_integer-requires g c =
    subst (λ w. w ≤ length c.loop.rest.now) c.bytes-width.ensures
    (first_there c.args.count c.loop.counter c.bytes-width.result (length c.loop.rest.now) c.loop-test.true
    c.loop.invariant.there)

pub loop-preserved : goal.loop-preserved
loop-preserved g c =
    let others = each (replicate (c.args.count - (c.loop.counter + 1)) (primitive_read c.args.kind.now)) in
    record {
      visiting =
          next_shown g.met.V.ValueVisitor.visited_append
          (at_same (ap (λ o. followed_by (with_value o (λ value rest. shows (events_of value) rest)) others)
          (c.requires c.loop.rest.now ∙ c.split_integer.ensures.value))
          (next_of c.args.count c.loop.counter (primitive_read c.args.kind.now) c.loop.rest.now c.loop-test.true
          c.loop.invariant.visiting))
          (by_answer _ c.in_ok-shown.ensures.ok (took g.V.ValueVisitor.visited g.V.ValueVisitor.stopped _ _ _ c.show.result c.show.ensures));
      there =
          still_there c.args.count c.loop.counter c.bytes-width.result (length c.loop.rest.now)
          (length c.split_integer.result.1.now) c.loop-test.true c.loop.invariant.there
          (subst (λ w. length c.split_integer.result.1.now + w ≡ length c.loop.rest.now) (sym c.bytes-width.ensures)
          c.split_integer.ensures.rest);
    }

pub returns-in_err-shown : goal.returns-in_err-shown
returns-in_err-shown g c =
    let others = each (replicate (c.args.count - (c.loop.counter + 1)) (primitive_read c.args.kind.now)) in
    next_refused (events_of (owned_value c.split_integer.result.0)) (others c.split_integer.result.1.now) _ c.from_residual.result c.in_err-shown.field-0.0 c.show.result g.met.V.ValueVisitor.visited_append
    g.met.V.ValueVisitor.stopped_later c.from_residual.ensures.1 c.in_err-shown.ensures.err
    (at_same (ap (λ o. followed_by (with_value o (λ value rest. shows (events_of value) rest)) others)
    (c.requires c.loop.rest.now ∙ c.split_integer.ensures.value))
    (next_of c.args.count c.loop.counter (primitive_read c.args.kind.now) c.loop.rest.now c.loop-test.true
    c.loop.invariant.visiting))
    (refused g.V.ValueVisitor.visited g.V.ValueVisitor.stopped _ _ _ c.show.result c.show.ensures)
