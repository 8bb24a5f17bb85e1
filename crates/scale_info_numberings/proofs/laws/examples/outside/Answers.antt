use Rattle.scale_info_numberings.proofs.Loops.{two_reached, two_first, none_from_zero, one_numbered}
use Rattle.scale_info_numberings.proofs.Loops.{match_outside, no_match_inside}
use Rattle.scale_info_numberings.proofs.laws.examples.outside.Goals as goal

pub returns-clause-reached : goal.returns-clause-reached
returns-clause-reached c = two_reached

pub returns-clause-first : goal.returns-clause-first
returns-clause-first c = two_first

pub returns-clause-no_numbering : goal.returns-clause-no_numbering
returns-clause-no_numbering c = none_from_zero

pub returns-clause-another_root : goal.returns-clause-another_root
returns-clause-another_root c = one_numbered

pub returns-clause-matches_itself : goal.returns-clause-matches_itself
returns-clause-matches_itself c = match_outside

pub returns-clause-no_match : goal.returns-clause-no_match
returns-clause-no_match c = no_match_inside
