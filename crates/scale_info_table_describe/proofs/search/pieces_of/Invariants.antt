use Rattle.std.proofs.Common.{[], length}
use Rattle.scale_info_segments.proofs.TypePaths.{IsCutTo}
use Rattle.scale_info_table_describe.proofs.search.pieces_of.Given as goal
use denote.Shadow.{shadow}
use denote.Text.{Utf8}

abbrev pub invariant-pieces : goal.invariant-pieces
invariant-pieces l = shadow (Utf8 l.rest) × IsCutTo [] l.text l.all.items l.rest

abbrev pub decreases-pieces : goal.decreases-pieces
decreases-pieces l = length l.rest
