use Rattle.std.proofs.Common.{◌≡◌, ◌∙◌, ◌++◌, ◌∷◌, [], ap, append-nil, false, get_or, sym}
use Rattle.scale_info_table_diff.proofs.CommonIds.{is_none, is_some}
use Rattle.scale_info_table_diff.proofs.Listed.{none_removed}
use Rattle.scale_info_table_diff.proofs.Marked.{one_more_marked}
use Rattle.scale_info_table_diff.specs.Comparisons.{removed_by}
use Rattle.scale_info_table_diff.specs.Differing.{marked_by}
use Rattle.scale_info_table_diff.specs.TypesByPath.{ids_of}
use Rattle.scale_info_table_diff.specs.declared.change.Change.TheVariants.{Changed, Removed}
use Rattle.scale_info_table_diff.proofs.old_paths.push_marked.Goals as goal
use Rattle.scale_info_table_diff.proofs.old_paths.push_marked.Goals.{then-marks-index+in_ok-try_clone+in_ok-push}
use Rattle.scale_info_table_diff.proofs.old_paths.push_marked.Goals.{else-marks-index+then-is_empty+in_ok-try_clone-2+in_ok-push-2}
use Rattle.scale_info_table_diff.proofs.old_paths.push_marked.Goals.{else-marks-index+else-is_empty}

pub loop-index-preserved : goal.loop-index-preserved
loop-index-preserved c =
    let others = c.args.new.now in
    let paths = c.args.paths.now in
    let marks = c.args.marks.now in
    let i = c.loop-index.index in
    let path = get_or paths i c.index-paths-index.result in
    let ids = ids_of path others in
    let changes = c.loop-index.changes.items in
    let same = c.index-paths-index.is in
    let step =
    one_more_marked others paths marks i c.index-paths-index.result false changes
    c.if-marks-index.changes.items _ c.loop-index-test.true c.requires in
    step
    (elim c.if-marks-index.branch [
      | then-marks-index+in_ok-try_clone+in_ok-push w ↦
          ap (λ v. v.items) w.changes-is ∙ w.in_ok-push.ensures.items
          ∙ ap (λ p. changes ++ Changed p ∷ []) (w.in_ok-try_clone.ensures ∙ same)
          ∙ ap (λ mark. changes ++ marked_by mark ids path) (sym w.if-marks-index.true)
      | else-marks-index+then-is_empty+in_ok-try_clone-2+in_ok-push-2 w ↦
          let none = is_none w.ids_of.result.now w.is_empty.result w.is_empty.ensures w.if-is_empty.true in
          ap (λ v. v.items) w.changes-is ∙ w.in_ok-push-2.ensures.items
          ∙ ap (λ p. changes ++ Removed p ∷ []) (w.in_ok-try_clone-2.ensures ∙ same)
          ∙ ap (λ found. changes ++ removed_by found path)
          (sym none ∙ w.ids_of.ensures ∙ ap (λ p. ids_of p others) same)
          ∙ ap (λ mark. changes ++ marked_by mark ids path) (sym w.if-marks-index.false)
      | else-marks-index+else-is_empty w ↦
          let some = is_some w.ids_of.result.now w.is_empty.result w.is_empty.ensures w.if-is_empty.false in
          let is = w.ids_of.ensures ∙ ap (λ p. ids_of p others) same in
          ap (λ v. v.items) w.changes-is ∙ sym (append-nil changes)
          ∙ ap (λ cs. changes ++ cs) (sym (none_removed w.ids_of.result.now path some))
          ∙ ap (λ found. changes ++ removed_by found path) is
          ∙ ap (λ mark. changes ++ marked_by mark ids path) (sym w.if-marks-index.false)
    ])
    c.loop-index.invariant
