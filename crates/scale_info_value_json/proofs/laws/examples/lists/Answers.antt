use Rattle.std.proofs.Common.{refl}
use Rattle.hex.proofs.OnLiterals.{hex_on_literals}
use Rattle.scale_info_value_json.specs.Takings.{value_within, compact_within}
use Rattle.scale_info_value_json.proofs.laws.examples.lists.Goals as goal

pub returns-clause-two : goal.returns-clause-two
unfolding value_within compact_within hex_on_literals
returns-clause-two c = refl

pub returns-clause-wide : goal.returns-clause-wide
unfolding value_within compact_within hex_on_literals
returns-clause-wide c = refl

pub returns-clause-other_kind : goal.returns-clause-other_kind
unfolding value_within compact_within hex_on_literals
returns-clause-other_kind c = refl

pub returns-clause-text : goal.returns-clause-text
unfolding value_within compact_within hex_on_literals
returns-clause-text c = refl

pub returns-clause-outside : goal.returns-clause-outside
unfolding value_within compact_within hex_on_literals
returns-clause-outside c = refl

pub returns-clause-deepest : goal.returns-clause-deepest
unfolding value_within compact_within hex_on_literals
returns-clause-deepest c = refl

pub returns-clause-items : goal.returns-clause-items
unfolding value_within compact_within hex_on_literals
returns-clause-items c = refl

pub returns-clause-missing : goal.returns-clause-missing
unfolding value_within compact_within hex_on_literals
returns-clause-missing c = refl

pub returns-clause-too_many : goal.returns-clause-too_many
unfolding value_within compact_within hex_on_literals
returns-clause-too_many c = refl
