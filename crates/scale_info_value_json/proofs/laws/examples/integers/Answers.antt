use Rattle.std.proofs.Common.{refl}
use Rattle.scale_info_value_json.specs.Takings.{value_within, compact_within}
use Rattle.scale_info_value_json.proofs.laws.examples.integers.Goals as goal

pub returns-clause-zeros : goal.returns-clause-zeros
unfolding value_within compact_within
returns-clause-zeros c = refl

pub returns-clause-plus : goal.returns-clause-plus
unfolding value_within compact_within
returns-clause-plus c = refl

pub returns-clause-none : goal.returns-clause-none
unfolding value_within compact_within
returns-clause-none c = refl

pub returns-clause-most : goal.returns-clause-most
unfolding value_within compact_within
returns-clause-most c = refl

pub returns-clause-over : goal.returns-clause-over
unfolding value_within compact_within
returns-clause-over c = refl

pub returns-clause-least : goal.returns-clause-least
unfolding value_within compact_within
returns-clause-least c = refl

pub returns-clause-under : goal.returns-clause-under
unfolding value_within compact_within
returns-clause-under c = refl

pub returns-clause-positive : goal.returns-clause-positive
unfolding value_within compact_within
returns-clause-positive c = refl

pub returns-clause-large : goal.returns-clause-large
unfolding value_within compact_within
returns-clause-large c = refl

pub returns-clause-signed : goal.returns-clause-signed
unfolding value_within compact_within
returns-clause-signed c = refl

pub returns-clause-nothing : goal.returns-clause-nothing
unfolding value_within compact_within
returns-clause-nothing c = refl
