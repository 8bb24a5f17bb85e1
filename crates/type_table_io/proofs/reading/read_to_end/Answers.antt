use Rattle.std.proofs.Common.{rules}
use Rattle.std.proofs.Common.{arith, ◌∙◌}
use Rattle.type_table_io.proofs.Filled.{reads_more, reads_none}
use Rattle.type_table_io.proofs.reading.read_to_end.Goals.{in-Ok, in-Err+else-ne}
use Rattle.type_table_io.proofs.reading.read_to_end.Goals as goal

pub loop-preserved : goal.loop-preserved
loop-preserved g c =
    let prefix = c.read_piece.ensures.prefix ∙ c.make_room.ensures.prefix in
    elim c.match-read_piece.branch [
      | in-Ok w ↦ record {
        within = omega (arith, w.in-Ok.ensures.fits);
        lost = reads_more _ _ _ c.loop.input.items _ c.loop.filled w.in-Ok.n _ w.filled-is prefix c.loop.invariant.lost w.in-Ok.ensures.ok;
      }
      | in-Err+else-ne w ↦ record {
        within = omega (arith, w.in-Err.ensures.err.0);
        lost = reads_none _ _ _ c.loop.input.items _ c.loop.filled _ w.filled-is prefix c.loop.invariant.lost w.in-Err.ensures.err.1;
      }
    ]

pub returns-then-ne-clause-end : goal.returns-then-ne-clause-end
returns-then-ne-clause-end g c = search rules

pub returns-then-ne-clause-whole : goal.returns-then-ne-clause-whole
returns-then-ne-clause-whole g c = search rules
