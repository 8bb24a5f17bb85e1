use Rattle.std.proofs.Common.{◌<◌, ℕ}
use Rattle.scale_info_table_diff.specs.Declarations.{AreAlikeAt}
use Rattle.scale_info_table_diff.proofs.declarations.change_between.Given as goal

abbrev pub invariant-loop-place : goal.invariant-loop-place
invariant-loop-place l =
    (p : ℕ) → p < l.place
    → AreAlikeAt l.types.table.now l.types.order.now l.others.table.now l.others.order.now p
