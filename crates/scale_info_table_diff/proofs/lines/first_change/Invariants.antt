use Rattle.std.proofs.Common.{◌≡◌, ◌<◌, ℕ}
use Rattle.scale_info_segments.specs.TypePaths.{texts}
use Rattle.scale_info_table_diff.specs.Declarations.{line_at}
use Rattle.scale_info_table_diff.proofs.lines.first_change.Given as goal

abbrev pub invariant-loop-place : goal.invariant-loop-place
invariant-loop-place l =
    (i : ℕ) → i < l.place → line_at (texts l.lines) i ≡ line_at (texts l.others) i
