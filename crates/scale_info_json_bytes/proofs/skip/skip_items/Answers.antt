use Rattle.std.proofs.Common.{arith}
use Rattle.scale_info_bytes.proofs.Options.{none_is}
use Rattle.scale_info_json_bytes.proofs.Skips.{all_left, less_left, no_items_left, rest_of_items}
use Rattle.scale_info_json_bytes.proofs.skip.skip_items.Goals as goal

pub loop-init : goal.loop-init
loop-init g c = all_left g.T.Skip.encodes c.args.count c.args.input.now

pub returns-in_err-rest-clause-none : goal.returns-in_err-rest-clause-none
returns-in_err-rest-clause-none g c =
    none_is c.from_residual.result
    (no_items_left g.T.Skip.encodes c.args.count _ c.args.input.now c.loop.rest.now (omega arith)
    c.loop.invariant c.in_err-rest.ensures.none)

pub loop-preserved : goal.loop-preserved
loop-preserved g c =
    less_left g.T.Skip.encodes c.args.count _ c.args.input.now c.loop.rest.now _ (omega arith)
    c.loop.invariant c.in_ok-rest.ensures.some

pub returns-clause-some : goal.returns-clause-some
returns-clause-some g c =
    rest_of_items g.T.Skip.encodes c.args.count c.loop.counter c.args.input.now c.loop.rest.now
    (omega arith) c.loop.invariant
