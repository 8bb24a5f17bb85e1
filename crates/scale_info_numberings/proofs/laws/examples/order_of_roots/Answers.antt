use Rattle.scale_info_numberings.proofs.FourComposites.{a_before_c, c_before_a, roots_not_exchanged}
use Rattle.scale_info_numberings.proofs.laws.examples.order_of_roots.Goals as goal

pub returns-clause-a_before_c : goal.returns-clause-a_before_c
returns-clause-a_before_c c = a_before_c

pub returns-clause-c_before_a : goal.returns-clause-c_before_a
returns-clause-c_before_a c = c_before_a

pub returns-clause-not_exchanged : goal.returns-clause-not_exchanged
returns-clause-not_exchanged c = roots_not_exchanged
