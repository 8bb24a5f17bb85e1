use Rattle.std.proofs.Common.{ℕ, arith, length-drop, length-take}
use Rattle.type_table_io.proofs.Filled.{writes_more, writes_none}
use Rattle.type_table_io.proofs.writing.write_all.Goals.{in-Ok, in-Err+else-ne}
use Rattle.type_table_io.proofs.writing.write_all.Goals as goal

pub loop-preserved : goal.loop-preserved
loop-preserved g c =
    elim c.match-write.branch [
      | in-Ok w ↦ record {
        within = omega (arith, w.in-Ok.ensures.bound, length-take {A = ℕ}, length-drop {A = ℕ});
        gained = writes_more _ _ _ c.args.bytes.now c.loop.done w.in-Ok.n _ w.done-is c.loop.invariant.gained w.in-Ok.ensures.bytes;
      }
      | in-Err+else-ne w ↦ record {
        within = omega arith;
        gained = writes_none _ _ _ c.args.bytes.now c.loop.done _ w.done-is c.loop.invariant.gained w.in-Err.ensures.bytes;
      }
    ]
