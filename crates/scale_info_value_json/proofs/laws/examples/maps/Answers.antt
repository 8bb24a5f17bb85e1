use Rattle.std.proofs.Common.{refl}
use Rattle.scale_info_value_json.specs.Takings.{value_within, compact_within}
use Rattle.scale_info_value_json.proofs.laws.examples.maps.Goals as goal

pub returns-clause-one : goal.returns-clause-one
unfolding value_within compact_within
returns-clause-one c = refl

pub returns-clause-object : goal.returns-clause-object
unfolding value_within compact_within
returns-clause-object c = refl

pub returns-clause-key_alone : goal.returns-clause-key_alone
unfolding value_within compact_within
returns-clause-key_alone c = refl

pub returns-clause-deeper : goal.returns-clause-deeper
unfolding value_within compact_within
returns-clause-deeper c = refl
