use Rattle.scale_info_table_diff.specs.Differences.{AgreeBelow}
use Rattle.scale_info_table_diff.proofs.first.first_place.Given as goal

abbrev pub invariant-loop-place : goal.invariant-loop-place
invariant-loop-place l = AgreeBelow l.place l.entries l.others
