use Rattle.std.proofs.Common.{◌∙◌}
use Rattle.std.proofs.lemmas.List.Folds.{flat_map-map}
use Rattle.scale_info_value_visit.specs.Events.{definition_at, events, one_by_one, untyped}
use Rattle.scale_info_value_visit.proofs.OneByOne.{all_alike}
use Rattle.scale_info_value_visit.proofs.laws.events_one_by_one.Goals as goal

pub returns : goal.returns
returns c = λ table id value.
    flat_map-map one_by_one untyped (events table id value) ∙ all_alike table value (definition_at table id)
