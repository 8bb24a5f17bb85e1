use Rattle.std.proofs.Common.{arith, ◌∙◌, All, ap, get_or, subst, sym}
use Rattle.std.proofs.lemmas.Option.{slice_get-get_or}
use Rattle.scale_info_table_diff.proofs.NeverPaired.{grows_both, one_more_edge, stays, still_edges}
use Rattle.scale_info_table_diff.specs.Differing.{IsEdge}
use Rattle.scale_info_table_diff.proofs.marks.add_edges.Goals.{in-Some+in_ok-push, in_default}
use Rattle.scale_info_table_diff.proofs.marks.add_edges.Goals as goal

pub loop-place-preserved : goal.loop-place-preserved
loop-place-preserved c =
    let before = c.args.pairs.now.items.items in
    let so_far = c.loop-place.pairs.items.items in
    let after = c.number_of.new.self.items.items in
    let more = grows_both before so_far after c.loop-place.invariant.0 c.number_of.ensures.grows in (
      more,
      λ types others pair at x y all.
          let i = c.loop-place.place in
          let known =
          still_edges types others so_far after c.number_of.ensures.grows c.loop-place.edges.items
          (c.loop-place.invariant.1 types others pair at x y all) in
          elim c.match-child.branch [
            | in-Some+in_ok-push w ↦
                one_more_edge types others after c.loop-place.edges.items _ c.args.number w.in-Some.child pair
                c.args.references.now c.args.others.now i (get_or c.args.references.now i 0) (get_or c.args.others.now i 0)
                known (stays before after c.args.number pair more at) (rw w.in-Some.is at c.in_ok-child.ensures.number)
                x y
                (slice_get-get_or c.args.references.now i 0 (omega arith))
                (slice_get-get_or c.args.others.now i 0 (omega arith))
                (ap (λ edges. edges.items) w.edges-is ∙ w.in_ok-push.ensures.items)
            | in_default w ↦ subst (λ edges. All (IsEdge types others after) edges.items) (sym w.edges-is) known
          ],
    )
