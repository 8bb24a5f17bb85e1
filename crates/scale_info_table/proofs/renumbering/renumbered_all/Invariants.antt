use Rattle.std.proofs.Common.{◌≡◌, ◌++◌, take, drop, map}
use Rattle.scale_info_table.proofs.renumbering.renumbered_all.Given as goal

abbrev pub invariant-loop-i : goal.invariant-loop-i
invariant-loop-i g l =
    l.all.items ≡ map (g.R.Renumber.renumbered l.numbers) (take l.i l.fn.parts) ++ drop l.i l.fn.parts
