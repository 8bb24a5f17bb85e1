use Rattle.std.proofs.Common.{◌-◌, ◌*◌}
use Rattle.scale_info_value_encode.proofs.compact.+compact.Given as goal

abbrev pub decreases-compact_within : goal.decreases-compact_within
decreases-compact_within g l = 2 * l.left

abbrev pub decreases-compact_by : goal.decreases-compact_by
decreases-compact_by g l = 2 * l.left - 1
