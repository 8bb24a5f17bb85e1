use Rattle.scale_info_numberings.proofs.Tables.{root_places}
use Rattle.scale_info_numberings.proofs.PlacesOf.{one_place}
use Rattle.scale_info_numberings.proofs.laws.one_list_of_places.Goals as goal

pub returns-clause-some : goal.returns-clause-some
returns-clause-some g c = λ S R L x. root_places S R L x

pub returns-clause-one : goal.returns-clause-one
returns-clause-one g c = λ S R L ps qs x p q. one_place L x.1.order.distinct R ps qs p q
