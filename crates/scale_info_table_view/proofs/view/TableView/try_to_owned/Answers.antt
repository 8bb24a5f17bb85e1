use Rattle.scale_info_table_view.proofs.Viewed.{table_begins, table_found}
use Rattle.scale_info_table_view.proofs.view.TableView.try_to_owned.Goals as goal

pub unreachable-requires : goal.unreachable-requires
unreachable-requires c =
    table_begins _ _ c.self.inside.table c.args.self.now c.self.view_is
    (rw c.in-Err-Malformed.field-0-is at c.in-Err-Malformed.ensures.malformed)

pub returns-in-Ok : goal.returns-in-Ok
returns-in-Ok c =
    table_found _ _ c.self.inside.table c.args.self.now c.self.view_is c.in-Ok.table _
    c.in-Ok.ensures.ok
