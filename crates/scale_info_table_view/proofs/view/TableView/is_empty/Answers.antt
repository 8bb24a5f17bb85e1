use Rattle.std.proofs.Common.{rules}
use Rattle.scale_info_table_view.proofs.Viewed.{view_empty}
use Rattle.scale_info_table_view.proofs.view.TableView.is_empty.Goals as goal

pub returns : goal.returns
returns c =
    view_empty _ _ c.self.inside.table c.args.self.now c.self.view_is _ (search rules)
