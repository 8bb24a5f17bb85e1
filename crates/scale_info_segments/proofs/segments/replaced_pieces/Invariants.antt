use Rattle.std.proofs.Common.{length}
use Rattle.scale_info_segments.specs.TypePaths.{text_pairs}
use Rattle.scale_info_segments.proofs.TypePaths.{IsCutTo}
use Rattle.scale_info_segments.proofs.segments.replaced_pieces.Given as goal
use denote.Shadow.{shadow}
use denote.Text.{Utf8}

abbrev pub invariant-pieces : goal.invariant-pieces
invariant-pieces l = shadow (Utf8 l.rest) × IsCutTo (text_pairs l.pairs) l.text l.all.items l.rest

abbrev pub decreases-pieces : goal.decreases-pieces
decreases-pieces l = length l.rest
