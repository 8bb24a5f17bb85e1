use Rattle.scale_info_numberings.proofs.Extensions.{one_numbering}
use Rattle.scale_info_walk.specs.TypeSystems.{types_system}
use Rattle.scale_info_walk.proofs.walk.number.Goals as goal

pub returns-clause-only : goal.returns-clause-only
returns-clause-only c L x =
    one_numbering (types_system c.args.types.now) c.args.roots.now L c.in_ok-found.found.order.items x
    c.in_ok-found.ensures.numbering
