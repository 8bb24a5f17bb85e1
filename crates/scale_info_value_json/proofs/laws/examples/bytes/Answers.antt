use Rattle.std.proofs.Common.{refl}
use Rattle.hex.proofs.OnLiterals.{hex_on_literals}
use Rattle.scale_info_value_json.specs.Takings.{value_within, compact_within}
use Rattle.scale_info_value_json.proofs.laws.examples.bytes.Goals as goal

pub returns-clause-prefixed : goal.returns-clause-prefixed
unfolding value_within compact_within hex_on_literals
returns-clause-prefixed c = refl

pub returns-clause-plain : goal.returns-clause-plain
unfolding value_within compact_within hex_on_literals
returns-clause-plain c = refl

pub returns-clause-digits : goal.returns-clause-digits
unfolding value_within compact_within hex_on_literals
returns-clause-digits c = refl

pub returns-clause-numbers : goal.returns-clause-numbers
unfolding value_within compact_within hex_on_literals
returns-clause-numbers c = refl

pub returns-clause-none : goal.returns-clause-none
unfolding value_within compact_within hex_on_literals
returns-clause-none c = refl

pub returns-clause-odd : goal.returns-clause-odd
unfolding value_within compact_within hex_on_literals
returns-clause-odd c = refl

pub returns-clause-capital : goal.returns-clause-capital
unfolding value_within compact_within hex_on_literals
returns-clause-capital c = refl

pub returns-clause-too_deep : goal.returns-clause-too_deep
unfolding value_within compact_within hex_on_literals
returns-clause-too_deep c = refl
