use Rattle.scale_info_numberings.proofs.FourComposites.{composites_numbered, composites_alone}
use Rattle.scale_info_numberings.proofs.FourComposites.{not_breadth_first, not_as_declared}
use Rattle.scale_info_numberings.proofs.FourComposites.{composites_table, one_table_from_a}
use Rattle.scale_info_numberings.proofs.laws.examples.four_composites.Goals as goal

pub returns-clause-numbering : goal.returns-clause-numbering
returns-clause-numbering c = composites_numbered

pub returns-clause-no_other : goal.returns-clause-no_other
returns-clause-no_other c = composites_alone

pub returns-clause-breadth_first : goal.returns-clause-breadth_first
returns-clause-breadth_first c = not_breadth_first

pub returns-clause-as_declared : goal.returns-clause-as_declared
returns-clause-as_declared c = not_as_declared

pub returns-clause-table : goal.returns-clause-table
returns-clause-table c = composites_table

pub returns-clause-no_other_table : goal.returns-clause-no_other_table
returns-clause-no_other_table c = one_table_from_a
