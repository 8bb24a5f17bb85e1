use Rattle.std.proofs.Common.{rules}
use Rattle.scale_info_interner.proofs.interner.InternerPartialEq.eq.Goals as goal

pub returns : goal.returns
returns g c = search rules
