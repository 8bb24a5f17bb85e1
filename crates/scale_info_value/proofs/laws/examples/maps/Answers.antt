use Rattle.std.proofs.Common.{refl}
use Rattle.scale_info_value.specs.Readings.{value_within, compact_within}
use Rattle.scale_info_value.proofs.laws.examples.maps.Goals as goal

pub returns-clause-one : goal.returns-clause-one
unfolding value_within compact_within
returns-clause-one c = refl

pub returns-clause-deepest : goal.returns-clause-deepest
unfolding value_within compact_within
returns-clause-deepest c = refl

pub returns-clause-deeper : goal.returns-clause-deeper
unfolding value_within compact_within
returns-clause-deeper c = refl

pub returns-clause-empty : goal.returns-clause-empty
unfolding value_within compact_within
returns-clause-empty c = refl

pub returns-clause-nested : goal.returns-clause-nested
unfolding value_within compact_within
returns-clause-nested c = refl
