use Rattle.std.proofs.Common.{◌≡◌, ◌∙◌, ◌++◌, ap, subst, true}
use Rattle.std.proofs.lemmas.Result.{IfErr-weaker, err_from_is_err_and, on_ok_weaker}
use Rattle.scale_info_table_diff.proofs.CommonIds.{is_none}
use Rattle.scale_info_table_diff.proofs.Inputs.{given_rows}
use Rattle.scale_info_table_diff.proofs.Listed.{adds_halves, drop_rows, drop_zip, same_none, take_rows, take_zip}
use Rattle.scale_info_table_diff.proofs.Marked.{adds_marked, given_marks, one_path}
use Rattle.scale_info_table_diff.specs.Comparisons.{TellsSame}
use Rattle.scale_info_table_diff.specs.Differing.{marked_changes, unmarked}
use Rattle.scale_info_table_diff.proofs.old_paths.+push_by_halves.Goals.{then-is_empty-via-then-is_empty, then-is_empty-via-else-is_empty+in_ok-are_same+then-branch}
use Rattle.scale_info_table_diff.proofs.old_paths.+push_by_halves.Goals as goal

pub returns-then-is_empty-clause-ok : goal.returns-then-is_empty-clause-ok
returns-then-is_empty-clause-ok t c = λ z marks.
    let types = c.args.old.now in
    let others = c.args.new.now in
    let paths = c.args.paths.now in
    let left = unmarked paths c.args.marks.now in
    let kept : c.then-is_empty.new ≡ others =
    elim c.then-is_empty.branch [
      | then-is_empty-via-then-is_empty w ↦ w.new-is
      | then-is_empty-via-else-is_empty+in_ok-are_same+then-branch w ↦ w.new-is ∙ w.in_ok-are_same.ensures.new
    ] in
    let tells : TellsSame types others left true =
    elim c.then-is_empty.branch [
      | then-is_empty-via-then-is_empty w ↦
          same_none types others paths c.args.marks.now (is_none paths c.is_empty.result c.is_empty.ensures w.if-is_empty.true)
      | then-is_empty-via-else-is_empty+in_ok-are_same+then-branch w ↦
          subst (λ same. TellsSame types others left same) w.if-branch.true (w.in_ok-are_same.ensures.ok z)
    ] in
    adds_marked types others paths c.args.marks.now c.args.changes.now.items c.push_marked.new.changes.items tells marks
    (c.in_ok-push_marked.ensures
    ∙ ap (λ os. c.args.changes.now.items ++ marked_changes os paths c.args.marks.now) kept)

pub returns-in_err-push_by_halves-clause-cause : goal.returns-in_err-push_by_halves-clause-cause
returns-in_err-push_by_halves-clause-cause t c =
    let p =
    err_from_is_err_and c.from_residual-in_err-push_by_halves.result
    c.from_residual-in_err-push_by_halves.ensures.1 in
    let why =
    rw (c.in_ok-are_same.ensures.old, c.in_ok-are_same.ensures.new) at c.in_err-push_by_halves.ensures.cause in
    rw (p.1, p.2)
    (λ z.
    why
    (given_rows (λ row. row.items) c.args.old.now _ c.split_at.result.0.now _ c.split_at-2.result.0.now
    c.split_at.ensures.front c.split_at-2.ensures.front
    (take_rows (λ row. row.items) c.args.old.now _ c.args.paths.now c.args.ids.now z)))

pub returns-clause-ok : goal.returns-clause-ok
returns-clause-ok t c =
    let types = c.args.old.now in
    let others = c.args.new.now in
    let same = c.in_ok-are_same.ensures.old in
    let same_other = c.in_ok-are_same.ensures.new in
    let first = rw (same, same_other) at c.in_ok-push_by_halves.ensures.ok in
    on_ok_weaker c.push_by_halves-2.result
    (λ second z marks.
    adds_halves types others _ c.args.paths.now c.split_at.result.0.now c.split_at.result.1.now
    c.args.changes.now.items c.push_by_halves.new.changes.items c.push_by_halves-2.new.changes.items
    c.split_at.ensures.front c.split_at.ensures.back
    (first
    (given_rows (λ row. row.items) types _ c.split_at.result.0.now _ c.split_at-2.result.0.now
    c.split_at.ensures.front c.split_at-2.ensures.front
    (take_rows (λ row. row.items) types _ c.args.paths.now c.args.ids.now z))
    (given_marks types others _ c.split_at.result.0.now _ c.split_at-3.result.0.now
    c.split_at.ensures.front c.split_at-3.ensures.front
    (take_zip _ _ c.args.paths.now c.args.marks.now marks)))
    (second
    (given_rows (λ row. row.items) types _ c.split_at.result.1.now _ c.split_at-2.result.1.now
    c.split_at.ensures.back c.split_at-2.ensures.back
    (drop_rows (λ row. row.items) types _ c.args.paths.now c.args.ids.now z))
    (given_marks types others _ c.split_at.result.1.now _ c.split_at-3.result.1.now
    c.split_at.ensures.back c.split_at-3.ensures.back
    (drop_zip _ _ c.args.paths.now c.args.marks.now marks))))
    (rw (c.in_ok-push_by_halves.ensures.old ∙ same, c.in_ok-push_by_halves.ensures.new ∙ same_other)
    at c.push_by_halves-2.ensures.ok)

pub returns-clause-cause : goal.returns-clause-cause
returns-clause-cause t c =
    IfErr-weaker c.push_by_halves-2.result _ _
    (λ e why z.
    why
    (given_rows (λ row. row.items) c.args.old.now _ c.split_at.result.1.now _ c.split_at-2.result.1.now
    c.split_at.ensures.back c.split_at-2.ensures.back
    (drop_rows (λ row. row.items) c.args.old.now _ c.args.paths.now c.args.ids.now z)))
    (rw (
      c.in_ok-push_by_halves.ensures.old ∙ c.in_ok-are_same.ensures.old,
      c.in_ok-push_by_halves.ensures.new ∙ c.in_ok-are_same.ensures.new,
    )
    at c.push_by_halves-2.ensures.cause)

pub returns-then-paths-eq1-clause-ok : goal.returns-then-paths-eq1-clause-ok
returns-then-paths-eq1-clause-ok t c = λ z marks.
    let types = c.args.old.now in
    let others = c.args.new.now in
    let paths = c.args.paths.now in
    one_path types others paths c.args.marks.now _ c.index-paths-0.result c.args.changes.now.items c.push_difference.new.changes.items
    c.if-paths-eq1.true c.requires.marks c.index-paths-0.is
    (subst (λ same. TellsSame types others (unmarked paths c.args.marks.now) same) c.if-branch.false
    (c.in_ok-are_same.ensures.ok z))
    marks (rw c.in_ok-are_same.ensures.new at (c.in_ok-push_difference.ensures types))
