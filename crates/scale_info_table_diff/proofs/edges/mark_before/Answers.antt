use Rattle.std.proofs.Common.{rules, arith, ◌≡◌, Some, slice_get}
use Rattle.std.proofs.lemmas.Grind.{common_steps}
use Rattle.std.proofs.lemmas.Option.{gets}
use Rattle.scale_info_table_diff.proofs.NeverPaired.{edge_at}
use Rattle.scale_info_table_diff.proofs.edges.mark_before.Goals as goal

pub returns-in_default-get-2 : goal.returns-in_default-get-2
returns-in_default-get-2 c = λ types others pairs all are.
    let edge = c.in-Some-get.edge.now in
    let at : slice_get c.args.edges.now c.loop.index ≡ Some edge =
    grind (arith, common_steps, gets, rules, c.in-Some-get.ensures.lookup) in
    c.mark.ensures types others pairs (edge_at types others pairs c.args.edges.now c.loop.index edge all at)
    (c.loop.invariant types others pairs all are)

pub loop-preserved : goal.loop-preserved
loop-preserved c = λ types others pairs all are.
    let edge = c.in-Some-get.edge.now in
    let at : slice_get c.args.edges.now c.loop.index ≡ Some edge =
    grind (arith, common_steps, gets, rules, c.in-Some-get.ensures.lookup) in
    c.mark.ensures types others pairs (edge_at types others pairs c.args.edges.now c.loop.index edge all at)
    (c.loop.invariant types others pairs all are)
