use Rattle.std.proofs.Common.{take}
use Rattle.std.specs.List.{All}
use Rattle.scale_info_segments.specs.Identifiers.{IsIdentifier}
use Rattle.scale_info_segments.specs.TypePaths.{texts}
use Rattle.scale_info_segments.proofs.segments.first_invalid_index.Given as goal

abbrev pub invariant-loop-place : goal.invariant-loop-place
invariant-loop-place l = All IsIdentifier (texts (take l.place l.strings))
