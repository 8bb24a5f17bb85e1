use Rattle.scale_info_numberings.proofs.Extensions.{one_numbering}
use Rattle.scale_info_walk.specs.TypeSystems.{types_system}
use Rattle.scale_info_table_view.proofs.view.TableView.number.Goals as goal

pub returns-clause-only : goal.returns-clause-only
returns-clause-only c L x =
    one_numbering (types_system c.args.self.now.types) c.args.roots.now L c.in_ok-found.found.order.items x
    c.in_ok-found.ensures.numbering
