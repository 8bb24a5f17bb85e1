use Rattle.std.proofs.Common.{◌≡◌, drop}
use Rattle.scale_info_segments.specs.TypePaths.{texts}
use Rattle.scale_info_table_describe.specs.PathSearches.{begins_with}
use Rattle.scale_info_table_describe.proofs.search.begins_with.Given as goal

abbrev pub invariant-loop-segment : goal.invariant-loop-segment
invariant-loop-segment l =
    begins_with (texts l.segments) l.path
    ≡ begins_with (texts (drop l.segment-index l.segments)) l.rest
