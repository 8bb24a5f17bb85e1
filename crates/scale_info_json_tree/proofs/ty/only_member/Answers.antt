use Rattle.std.proofs.Common.{arith}
use Rattle.serde_json.specs.View.{view}
use Rattle.scale_info_json_tree.proofs.Single.{single, not_single}
use Rattle.scale_info_json_tree.proofs.ty.only_member.Goals as goal

pub returns-then-len-ne1-clause-none : goal.returns-then-len-ne1-clause-none
returns-then-len-ne1-clause-none c = not_single (view c.args.tree.now) c.in_ok-members.members.now.entries c.in_ok-members.ensures (λ e. omega (arith, c.len.ensures.len, c.if-len-ne1.true, e))

pub returns-clause-some : goal.returns-clause-some
returns-clause-some c = rw c.as_str.ensures.value (single (view c.args.tree.now) c.in_ok-members.members.now.entries c.in_ok-key.key.now c.in_ok-key.value.now c.in_ok-members.ensures (omega (arith, c.len.ensures.len, c.if-len-ne1.false)) c.in_ok-key.ensures.first)
