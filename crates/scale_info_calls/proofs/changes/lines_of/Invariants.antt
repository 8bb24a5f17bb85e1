use Rattle.std.proofs.Common.{◌≡◌, ◌++◌, drop, string_bytes}
use Rattle.std.specs.List.{flat_map}
use Rattle.scale_info_calls.specs.Changes.{change_line}
use Rattle.scale_info_calls.proofs.changes.lines_of.Given as goal

abbrev pub invariant-loop-change : goal.invariant-loop-change
invariant-loop-change l =
    string_bytes l.out ++ flat_map change_line (drop l.change-index l.changes)
    ≡ flat_map change_line l.changes
