use Rattle.std.proofs.Common.{arith, ◌<◌}
use Rattle.scale_info_table_prune.proofs.Renumbering.{all_inside, one_inside}
use Rattle.scale_info_table_diff.proofs.entries.are_below.Goals as goal

pub loop-id-preserved : goal.loop-id-preserved
loop-id-preserved c =
    one_inside c.args.count c.args.ids.now c.loop-id.id-index c.loop-id.invariant
    c.loop-id-test.true (omega arith)

pub returns : goal.returns
returns c = λ _.
    all_inside (λ id. id < c.args.count) c.args.ids.now c.loop-id.id-index (omega arith) c.loop-id.invariant
