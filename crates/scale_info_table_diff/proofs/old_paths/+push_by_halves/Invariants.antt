use Rattle.std.proofs.Common.{length}
use Rattle.scale_info_table_diff.proofs.old_paths.+push_by_halves.Given as goal

abbrev pub decreases-push_by_halves : goal.decreases-push_by_halves
decreases-push_by_halves l = length l.paths.now
