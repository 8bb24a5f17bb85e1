use Rattle.std.proofs.Math.Logic.{∥∥₁_map}
use Rattle.scale_info_table_view.proofs.Viewed.{entries_there}
use Rattle.scale_info_table_view.proofs.view.TableView.as_bytes.Goals as goal

pub returns : goal.returns
returns c =
    ∥∥₁_map (entries_there _ _ c.self.inside.table c.args.self.now c.self.view_is)
    (λ there. there.encodes)
