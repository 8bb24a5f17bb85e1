use Rattle.std.proofs.Common.{refl}
use Rattle.scale_info_interner.proofs.interner.Interner.get.Goals as goal

pub returns-in-Some-clause-found : goal.returns-in-Some-clause-found
returns-in-Some-clause-found g c = (c.in-Some.ensures.index c.in-Some.id).0 refl
