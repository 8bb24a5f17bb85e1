use Rattle.scale_info_numberings.proofs.Loops.{cycle_numbered, cycle_not_ascending}
use Rattle.scale_info_numberings.proofs.laws.examples.cycle.Goals as goal

pub returns-clause-numbering : goal.returns-clause-numbering
returns-clause-numbering c = cycle_numbered

pub returns-clause-ascending : goal.returns-clause-ascending
returns-clause-ascending c = cycle_not_ascending
