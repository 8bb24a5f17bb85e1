use Rattle.std.proofs.Common.{◌==◌, ap, ◌∙◌}
use Rattle.serde_json.specs.View.{view}
use Rattle.scale_info_value_json.proofs.Trees.{members_found}
use Rattle.scale_info_value_json.proofs.tree.has_members.Goals as goal

pub returns-in-Some : goal.returns-in-Some
returns-in-Some c =
    ap (λ n. n == c.args.count) c.len.ensures.len
    ∙ members_found (view c.args.tree.now) c.in-Some.members.now.entries c.args.count c.in-Some.ensures
