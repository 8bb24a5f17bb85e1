use Rattle.std.proofs.Common.{◌≡◌, ◌++◌, drop, string_bytes}
use Rattle.std.specs.List.{flat_map}
use Rattle.scale_info_segments.specs.TypePaths.{separator}
use Rattle.type_reader_run.specs.Listings.{path_text}
use Rattle.type_reader_run.proofs.listing.append_path.Given as goal

abbrev pub invariant-loop-segment : goal.invariant-loop-segment
invariant-loop-segment l =
    string_bytes l.out ++ flat_map (λ s. separator ++ s) (drop l.segment-index l.others)
    ≡ string_bytes l.fn.out ++ path_text l.fn.segments
