use Rattle.std.proofs.Common.{arith, map}
use Rattle.scale_info_value.specs.ValueDefinitions.{primitive}
use Rattle.scale_info_value.proofs.Errors.{repeat_fails}
use Rattle.scale_info_value_borrowed.specs.BorrowedValues.{owned_value}
use Rattle.scale_info_value_borrowed.proofs.InTurn.{one_more_done}
use Rattle.scale_info_value_borrowed.proofs.list.each.Goals as goal

pub returns-in_err-value-clause-err : goal.returns-in_err-value-clause-err
returns-in_err-value-clause-err c =
    repeat_fails c.args.count (primitive c.args.kind.now)
    c.args.input.now c.loop.counter (map owned_value c.loop.values) c.loop.rest.now c.from_residual.result
    c.in_err-value.field-0.0 c.from_residual.ensures.1 (omega arith) c.loop.invariant c.in_err-value.ensures.err

pub loop-preserved : goal.loop-preserved
loop-preserved c =
    rw c.in_ok-push_towards.ensures.list
    (one_more_done owned_value c.args.count (primitive c.args.kind.now) c.args.input.now c.loop.counter c.loop.values
    c.loop.rest.now c.in_ok-value.value c.in_ok-value.after.now (omega arith) c.loop.invariant
    c.in_ok-value.ensures.ok)
