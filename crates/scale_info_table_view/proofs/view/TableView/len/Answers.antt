use Rattle.std.proofs.Common.{rules}
use Rattle.scale_info_table_view.proofs.Viewed.{view_long}
use Rattle.scale_info_table_view.proofs.view.TableView.len.Goals as goal

pub returns : goal.returns
returns c =
    let long = view_long _ _ c.self.inside.table c.args.self.now c.self.view_is in search rules
