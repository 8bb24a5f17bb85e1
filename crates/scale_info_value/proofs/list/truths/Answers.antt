use Rattle.std.proofs.Common.{arith}
use Rattle.scale_info_value.specs.declared.value.Value.TheVariants as Values
use Rattle.scale_info_value.specs.ValueDefinitions.{truth}
use Rattle.scale_info_value.proofs.Errors.{failed_as}
use Rattle.scale_info_value.proofs.InOrder.{done_more, done_fails, done_all}
use Rattle.scale_info_value.proofs.Integers.{truths_missing}
use Rattle.scale_info_value.proofs.list.truths.Goals as goal

pub returns-then-input-count-clause-err : goal.returns-then-input-count-clause-err
returns-then-input-count-clause-err c = truths_missing c.args.count c.args.input.now c.if-input-count.true

pub returns-in_err-value-clause-err : goal.returns-in_err-value-clause-err
returns-in_err-value-clause-err c =
    failed_as c.from_residual-in_err-value.result c.in_err-value.field-0.0 c.from_residual-in_err-value.ensures.1 _
    (done_fails c.args.count truth c.args.input.now c.loop.counter c.loop.values.items c.loop.rest.now
    c.in_err-value.field-0.0 c.loop-test.true c.loop.invariant.done c.in_err-value.ensures.err)

pub loop-preserved : goal.loop-preserved
loop-preserved c = record {
  done =
      rw c.push_reserved.ensures.items
      (done_more c.args.count truth c.args.input.now c.loop.counter c.loop.values.items c.loop.rest.now
      (Values.Bool c.in_ok-value.value) c.in_ok-value.after.now c.loop-test.true c.loop.invariant.done
      c.in_ok-value.ensures.ok);
  long = omega arith;
  room = omega arith;
}

pub returns-clause-ok : goal.returns-clause-ok
returns-clause-ok c =
    rw c.from.ensures
    (done_all c.args.count truth c.args.input.now c.loop.counter c.loop.values.items c.loop.rest.now
    c.loop-test.false c.loop.invariant.done)
