use Rattle.std.proofs.Common.{rules}
use Rattle.scale_info_interner.proofs.laws.tracked_symbols_by_number.Goals as goal

pub returns-clause-equal : goal.returns-clause-equal
returns-clause-equal g c = search rules

pub returns-clause-ordered : goal.returns-clause-ordered
returns-clause-ordered g c = search rules
