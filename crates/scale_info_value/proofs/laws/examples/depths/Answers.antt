use Rattle.std.proofs.Common.{refl}
use Rattle.scale_info_value.specs.Readings.{value_within, compact_within}
use Rattle.scale_info_value.proofs.laws.examples.depths.Goals as goal

pub returns-clause-own : goal.returns-clause-own
unfolding value_within compact_within
returns-clause-own c = refl

pub returns-clause-deepest : goal.returns-clause-deepest
unfolding value_within compact_within
returns-clause-deepest c = refl

pub returns-clause-items : goal.returns-clause-items
unfolding value_within compact_within
returns-clause-items c = refl

pub returns-clause-past : goal.returns-clause-past
unfolding value_within compact_within
returns-clause-past c = refl
