use Rattle.scale_info_numberings.proofs.FourComposites.{d_after_c, not_a_first, c_and_d}
use Rattle.scale_info_numberings.proofs.FourComposites.{c_and_d_numbered, b_is_known}
use Rattle.scale_info_numberings.proofs.laws.examples.two_registrations.Goals as goal

pub returns-clause-extension : goal.returns-clause-extension
returns-clause-extension c = d_after_c

pub returns-clause-another_order : goal.returns-clause-another_order
returns-clause-another_order c = not_a_first

pub returns-clause-one_after_another : goal.returns-clause-one_after_another
returns-clause-one_after_another c = c_and_d

pub returns-clause-in_one_go : goal.returns-clause-in_one_go
returns-clause-in_one_go c = c_and_d_numbered

pub returns-clause-known : goal.returns-clause-known
returns-clause-known c = b_is_known
