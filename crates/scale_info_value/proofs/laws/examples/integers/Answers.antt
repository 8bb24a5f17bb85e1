use Rattle.std.proofs.Common.{refl}
use Rattle.scale_info_value.specs.Readings.{value_within, compact_within}
use Rattle.scale_info_value.proofs.laws.examples.integers.Goals as goal

pub returns-clause-one : goal.returns-clause-one
unfolding value_within compact_within
returns-clause-one c = refl

pub returns-clause-four_bytes : goal.returns-clause-four_bytes
unfolding value_within compact_within
returns-clause-four_bytes c = refl

pub returns-clause-eight_bytes : goal.returns-clause-eight_bytes
unfolding value_within compact_within
returns-clause-eight_bytes c = refl

pub returns-clause-longer : goal.returns-clause-longer
unfolding value_within compact_within
returns-clause-longer c = refl

pub returns-clause-wide : goal.returns-clause-wide
unfolding value_within compact_within
returns-clause-wide c = refl

pub returns-clause-signed : goal.returns-clause-signed
unfolding value_within compact_within
returns-clause-signed c = refl

pub returns-clause-minus_one : goal.returns-clause-minus_one
unfolding value_within compact_within
returns-clause-minus_one c = refl

pub returns-clause-least : goal.returns-clause-least
unfolding value_within compact_within
returns-clause-least c = refl

pub returns-clause-wrapped : goal.returns-clause-wrapped
unfolding value_within compact_within
returns-clause-wrapped c = refl

pub returns-clause-wrapped_wide : goal.returns-clause-wrapped_wide
unfolding value_within compact_within
returns-clause-wrapped_wide c = refl
