use Rattle.std.proofs.Common.{refl}
use Rattle.scale_info_value_json.specs.Takings.{value_within, compact_within}
use Rattle.scale_info_value_json.proofs.laws.examples.variants.Goals as goal

pub returns-clause-name : goal.returns-clause-name
unfolding value_within compact_within
returns-clause-name c = refl

pub returns-clause-empty : goal.returns-clause-empty
unfolding value_within compact_within
returns-clause-empty c = refl

pub returns-clause-filled : goal.returns-clause-filled
unfolding value_within compact_within
returns-clause-filled c = refl

pub returns-clause-hidden : goal.returns-clause-hidden
unfolding value_within compact_within
returns-clause-hidden c = refl

pub returns-clause-none : goal.returns-clause-none
unfolding value_within compact_within
returns-clause-none c = refl

pub returns-clause-shared : goal.returns-clause-shared
unfolding value_within compact_within
returns-clause-shared c = refl

pub returns-clause-with_fields : goal.returns-clause-with_fields
unfolding value_within compact_within
returns-clause-with_fields c = refl

pub returns-clause-ambiguous : goal.returns-clause-ambiguous
unfolding value_within compact_within
returns-clause-ambiguous c = refl

pub returns-clause-without_index : goal.returns-clause-without_index
unfolding value_within compact_within
returns-clause-without_index c = refl
