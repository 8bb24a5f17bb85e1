use Rattle.scale_info_numberings.proofs.Matches.{match_image, match_numbering, match_table}
use Rattle.scale_info_numberings.proofs.Matches.{match_places}
use Rattle.scale_info_numberings.proofs.laws.match_carries.Goals as goal

pub returns : goal.returns
returns g c = record {
  image = match_image;
  numbering = match_numbering;
  table = match_table;
  places = match_places;
}
