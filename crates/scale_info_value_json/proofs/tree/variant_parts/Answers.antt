use Rattle.std.proofs.Common.{Some, ap, ◌∙◌, arith}
use Rattle.serde_json.specs.View.{view}
use Rattle.scale_info_value_json.proofs.Trees.{one_member, not_one_member}
use Rattle.scale_info_value_json.proofs.tree.variant_parts.Goals as goal

pub returns-then-len-ne1 : goal.returns-then-len-ne1
returns-then-len-ne1 c =
    not_one_member (view c.args.tree.now) c.in_ok-members.members.now.entries c.in_ok-members.ensures
    (λ e. omega (arith, c.len.ensures.len, c.if-len-ne1.true, e))

pub returns : goal.returns
returns c =
    ap (λ name. Some (name, Some (view c.in_ok-name.content.now))) c.as_str-2.ensures.value
    ∙ one_member (view c.args.tree.now) c.in_ok-members.members.now.entries c.in_ok-name.name.now c.in_ok-name.content.now
    c.in_ok-members.ensures (omega (arith, c.len.ensures.len, c.if-len-ne1.false)) c.in_ok-name.ensures.first
