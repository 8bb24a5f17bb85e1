use Rattle.std.proofs.Common.{refl}
use Rattle.scale_info_value.specs.Readings.{value_within, compact_within}
use Rattle.scale_info_value.proofs.laws.examples.fields.Goals as goal

pub returns-clause-named : goal.returns-clause-named
unfolding value_within compact_within
returns-clause-named c = refl

pub returns-clause-first : goal.returns-clause-first
unfolding value_within compact_within
returns-clause-first c = refl

pub returns-clause-none : goal.returns-clause-none
unfolding value_within compact_within
returns-clause-none c = refl
