use Rattle.std.proofs.Common.{◌≡◌, ◌/◌, ◌^◌, ◌-◌, ◌<◌, ◌≤◌}
use Rattle.scale_info_value_encode.proofs.integer.width_from_four.Given as goal

abbrev pub invariant-loop-high : goal.invariant-loop-high
invariant-loop-high l = record {
  low : 4 ≤ l.width;
  most : l.width ≤ 16;
  left : l.high ≡ l.n / 256 ^ l.width;
  needed : 4 < l.width → 256 ^ (l.width - 1) ≤ l.n;
}

abbrev pub decreases-loop-high : goal.decreases-loop-high
decreases-loop-high l = l.high
