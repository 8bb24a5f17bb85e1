use Rattle.std.proofs.Common.{rules, ◌≡◌, All, length, subst, sym}
use Rattle.scale_info_table_diff.proofs.NeverPaired.{one_more_mark, still_all}
use Rattle.scale_info_table_diff.specs.Differing.{IsDiffering, IsEdge}
use Rattle.scale_info_table_diff.proofs.marks.find_differing.Goals as goal

pub loop-preserved : goal.loop-preserved
loop-preserved c =
    let types = c.args.old.now.table.now in
    let others = c.args.new.now.table.now in
    let before = c.loop.pairs.items.items in
    let after = c.visit.new.pairs.items.items in
    let number : c.len-number.result ≡ length c.loop.marks.items = search rules in
    let grows = c.visit.ensures.grows in
    let known = c.loop.invariant in (
      one_more_mark types others after c.loop.marks.items c.push.new.self.items c.in_ok-mark.mark
          (still_all types others before after grows c.loop.marks.items known.0)
          (λ yes.
          subst (IsDiffering types others after) number (c.in_ok-mark.ensures.mark yes))
          c.in_ok-push.ensures.items,
      c.in_ok-mark.ensures.edges known.1,
    )

pub returns : goal.returns
returns c =
    let types = c.args.old.now.table.now in
    let others = c.args.new.now.table.now in
    let known = c.loop.invariant in
    c.in_ok-spread.ensures types others c.loop.pairs.items.items
    (subst (All (IsEdge types others c.loop.pairs.items.items)) (sym c.deref.ensures.value) known.1) known.0
