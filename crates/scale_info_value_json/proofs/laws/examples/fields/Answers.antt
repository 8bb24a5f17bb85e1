use Rattle.std.proofs.Common.{refl}
use Rattle.scale_info_value_json.specs.Takings.{value_within, compact_within}
use Rattle.scale_info_value_json.proofs.laws.examples.fields.Goals as goal

pub returns-clause-named : goal.returns-clause-named
unfolding value_within compact_within
returns-clause-named c = refl

pub returns-clause-missing : goal.returns-clause-missing
unfolding value_within compact_within
returns-clause-missing c = refl

pub returns-clause-unknown : goal.returns-clause-unknown
unfolding value_within compact_within
returns-clause-unknown c = refl

pub returns-clause-array : goal.returns-clause-array
unfolding value_within compact_within
returns-clause-array c = refl

pub returns-clause-twice : goal.returns-clause-twice
unfolding value_within compact_within
returns-clause-twice c = refl

pub returns-clause-once : goal.returns-clause-once
unfolding value_within compact_within
returns-clause-once c = refl
