use Rattle.std.proofs.Common.{[], ◌∷◌, ◌++◌, true, refl}
use Rattle.scale_info_value_visit.specs.Events.{begin_list, end_list}
use Rattle.scale_info_value_visit.specs.Reads.{value_read}
use Rattle.scale_info_value_visit.proofs.Events.{unsigned_events, truth_events}
use Rattle.scale_info_value_visit.proofs.laws.examples.maps_read.Goals as goal

pub returns-clause-empty : goal.returns-clause-empty
unfolding value_read
returns-clause-empty c = refl

pub returns-clause-second : goal.returns-clause-second
unfolding value_read
returns-clause-second c = λ i.
    begin_list 2
    ∷ ((begin_list 2 ∷ ((unsigned_events 7 i ++ (truth_events true i ++ [])) ++ end_list ∷ []))
    ++ (begin_list 2 ∷ (unsigned_events 9 i ++ [])))
