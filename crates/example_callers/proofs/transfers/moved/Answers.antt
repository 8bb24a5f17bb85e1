use Rattle.std.proofs.Common.{refl, arith}
use Rattle.example_callers.proofs.Moved.{has_moved, is_moved_error}
use Rattle.example_callers.proofs.transfers.moved.Goals as goal

pub returns-in-Ok-clause-ok : goal.returns-in-Ok-clause-ok
returns-in-Ok-clause-ok c =
    let shown = c.in-Ok.ensures.ok in
    record {
      value = shown.value;
      rest = _;
      read = shown.read;
      sum = let all = has_moved _ _ _ shown.visited in omega (arith, all.0);
    }

pub returns-in-Err-clause-err : goal.returns-in-Err-clause-err
returns-in-Err-clause-err c =
    is_moved_error _ _ _ _ _ c.in-Err.error refl refl
    (c.read_is_decoded.ensures.events c.args.table.now c.args.id c.args.input.now) c.in-Err.ensures.err
