use Rattle.std.proofs.Common.{arith, add-one}
use Rattle.scale_info_table.proofs.chosen.chosen_ids.Goals as goal

pub loop-id-preserved : goal.loop-id-preserved
loop-id-preserved g c =
    let chosen = c.choose.ensures in
    let before = c.loop-id.invariant in
    let few = chosen.few in
    let room = chosen.room in
    let short = before.short in
    let wide = before.room in
    record {
      callable = chosen.callable;
      chosen = rw (add-one c.loop-id.id) (c.loop-id.chosen.items, c.loop-id.filter, chosen.asked.0, before.chosen, chosen.asked.1, chosen.asked.2);
      short = omega arith;
      room = omega arith;
    }
