use Rattle.std.proofs.Common.{arith, ◌<◌, length, ap}
use Rattle.std.proofs.lemmas.List.Edits.{map_over_more}
use Rattle.scale_info_table.proofs.renumbering.renumbered_all.Goals as goal

pub loop-i-preserved : goal.loop-i-preserved
loop-i-preserved g c =
    let parts = c.args.parts in
    let count = c.len-i-end.ensures in
    let long = c.into_vec-all.result.ok.0 in
    let same = ap length c.into_vec-all.ensures in
    let within : c.loop-i.i < length parts = omega (arith, c.loop-i-test.true) in
    rw c.renumber.ensures
    (map_over_more (g.R.Renumber.renumbered c.args.numbers.now) parts c.loop-i.all.items c.loop-i.i c.index_mut.result.now within
    c.loop-i.invariant c.index_mut.ensures.value)
