use Rattle.scale_info_segments.proofs.TypePaths.{same_pieces}
use Rattle.scale_info_segments.proofs.laws.one_list_of_pieces.Goals as goal

pub returns : goal.returns
returns c = same_pieces
