use Rattle.std.proofs.Common.{◌≡◌, drop}
use Rattle.scale_info_segments.specs.TypePaths.{texts}
use Rattle.scale_info_table_describe.specs.PathSearches.{stands_in}
use Rattle.scale_info_table_describe.proofs.search.stands_in.Given as goal

abbrev pub invariant-loop-start : goal.invariant-loop-start
invariant-loop-start l =
    stands_in (texts l.segments) l.path ≡ stands_in (texts l.segments) (drop l.start l.path)
