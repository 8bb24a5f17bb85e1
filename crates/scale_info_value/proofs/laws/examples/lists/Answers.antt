use Rattle.std.proofs.Common.{refl}
use Rattle.scale_info_value.specs.Readings.{value_within, compact_within}
use Rattle.scale_info_value.proofs.laws.examples.lists.Goals as goal

pub returns-clause-two : goal.returns-clause-two
unfolding value_within compact_within
returns-clause-two c = refl

pub returns-clause-short : goal.returns-clause-short
unfolding value_within compact_within
returns-clause-short c = refl

pub returns-clause-outside : goal.returns-clause-outside
unfolding value_within compact_within
returns-clause-outside c = refl

pub returns-clause-missing : goal.returns-clause-missing
unfolding value_within compact_within
returns-clause-missing c = refl

pub returns-clause-one_missing : goal.returns-clause-one_missing
unfolding value_within compact_within
returns-clause-one_missing c = refl
