use Rattle.std.proofs.Common.{rules, ◌≡◌, ◌∙◌, length, arith}
use Rattle.scale_info_table_view.proofs.Viewed.{view_few, view_long}
use Rattle.scale_info_table_view.proofs.view.TableView.entries.Goals as goal

pub invariant_of-result : goal.invariant_of-result
invariant_of-result c =
    let long = view_long _ _ c.self.inside.table c.args.self.now c.self.view_is in
    let few = view_few _ _ c.self.inside.table c.args.self.now c.self.view_is in
    let count : c.len.result ≡ length c.self.inside.offsets.items = search rules in
    (count ∙ long, omega arith)
