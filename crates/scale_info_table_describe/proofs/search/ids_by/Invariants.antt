use Rattle.std.proofs.Common.{◌≡◌, ◌++◌, drop}
use Rattle.scale_info_segments.specs.TypePaths.{texts}
use Rattle.scale_info_table_describe.specs.PathSearches.{indices_from, test_of}
use Rattle.scale_info_table_describe.proofs.search.ids_by.Given as goal

abbrev pub invariant-loop-index : goal.invariant-loop-index
invariant-loop-index l =
    l.ids.items ++ indices_from l.index (test_of l.search (texts l.pieces.items)) (drop l.index l.types)
    ≡ indices_from 0 (test_of l.search (texts l.pieces.items)) l.types
