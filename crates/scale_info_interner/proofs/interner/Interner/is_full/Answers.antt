use Rattle.std.proofs.Common.{rules}
use Rattle.scale_info_interner.proofs.interner.Interner.is_full.Goals as goal

pub returns-clause-full : goal.returns-clause-full
returns-clause-full g c = search rules
