use Rattle.std.proofs.Common.{arith, refl, rules, ◌≡◌, ◌∙◌, ◌++◌, ap, false, length, subst, sym, true}
use Rattle.std.proofs.lemmas.Result.{on_ok_weaker}
use Rattle.scale_info_table_diff.proofs.EntriesOf.{resized}
use Rattle.scale_info_table_diff.proofs.Inputs.{given_rows}
use Rattle.scale_info_table_diff.proofs.Marked.{adds_marked, given_marks, no_marks}
use Rattle.scale_info_table_diff.specs.Comparisons.{AddsOldChanges, TellsSame}
use Rattle.scale_info_table_diff.specs.Differing.{marked_changes, unmarked}
use Rattle.scale_info_table_diff.specs.TypesByPath.{paths_of}
use Rattle.scale_info_table_diff.proofs.old_paths.push_old_changes.Goals as goal

pub returns-then-branch-clause-ok : goal.returns-then-branch-clause-ok
returns-then-branch-clause-ok c =
    let types = c.old.inside.table in
    let others = c.args.new.now in
    let paths = c.elements-paths.result.now in
    let marks = c.resize.new.self.items in
    let given = c.deref-then-branch.result.now in
    let long : length marks ≡ length paths = search rules in
    let none =
    resized marks (length paths) false long
    (λ k d below. c.in_ok-resize.ensures.by_index.1 k d refl (omega (arith, c.new-marks.ensures.len)) below) in
    let tells : TellsSame types others (unmarked paths given) true =
    subst (λ ms. TellsSame types others (unmarked paths ms) true) (c.deref-2.ensures.value ∙ sym c.deref-then-branch.ensures.value)
    (subst (λ same. TellsSame types others (unmarked paths c.deref-2.result.now) same) c.if-branch.true
    (c.in_ok-are_same.ensures.ok
    (given_rows (λ row. row.items) types c.old.inside.paths paths c.old.inside.ids.items c.deref.result.now
    c.elements-paths.ensures.list c.deref.ensures.value c.old.invariant.1.are_ids))) in
    subst (λ ts. AddsOldChanges ts others (paths_of ts) c.args.changes.now.items c.push_marked.new.changes.items) c.old.view_is
    (subst (λ ps. AddsOldChanges types others ps c.args.changes.now.items c.push_marked.new.changes.items)
    (c.elements-paths.ensures.list ∙ c.old.invariant.1.are_paths)
    (adds_marked types others paths given c.args.changes.now.items c.push_marked.new.changes.items tells
    (given_marks types others paths paths marks given refl c.deref-then-branch.ensures.value (no_marks types others paths marks long none))
    (c.in_ok-push_marked.ensures
    ∙ ap (λ os. c.args.changes.now.items ++ marked_changes os paths given) c.in_ok-are_same.ensures.new)))

pub push_by_halves-requires-clause-marks : goal.push_by_halves-requires-clause-marks
push_by_halves-requires-clause-marks c = ap length c.deref-5.ensures.value ∙ c.in_ok-marks.ensures.long

pub returns-clause-ok : goal.returns-clause-ok
returns-clause-ok c =
    let types = c.old.inside.table in
    let others = c.args.new.now in
    let paths = c.elements-paths.result.now in
    let same = c.in_ok-are_same.ensures.old in
    let same_other = c.in_ok-are_same.ensures.new in
    on_ok_weaker c.push_by_halves.result
    (λ adds.
    subst (λ ts. AddsOldChanges ts others (paths_of ts) c.args.changes.now.items c.push_by_halves.new.changes.items) c.old.view_is
    (subst (λ ps. AddsOldChanges types others ps c.args.changes.now.items c.push_by_halves.new.changes.items)
    (c.elements-paths.ensures.list ∙ c.old.invariant.1.are_paths)
    (adds
    (given_rows (λ row. row.items) types c.old.inside.paths paths c.old.inside.ids.items c.deref-4.result.now
    c.elements-paths.ensures.list c.deref-4.ensures.value c.old.invariant.1.are_ids)
    (given_marks types others paths paths c.in_ok-marks.marks.items c.deref-5.result.now refl c.deref-5.ensures.value
    ((rw (same, same_other) at c.in_ok-marks.ensures.marks)
    (given_rows (λ row. row.items) types c.old.inside.paths paths c.old.inside.ids.items c.deref-3.result.now
    c.elements-paths.ensures.list c.deref-3.ensures.value c.old.invariant.1.are_ids))))))
    (rw (same, same_other) at c.push_by_halves.ensures.ok)
