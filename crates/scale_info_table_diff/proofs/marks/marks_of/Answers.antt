use Rattle.std.proofs.Common.{◌≡◌, ◌∙◌, ◌+◌, ◌++◌, ◌∷◌, [], ap, get_or, length, length-append, sym, subst, take, true}
use Rattle.std.proofs.lemmas.List.{take_more}
use Rattle.scale_info_table_diff.proofs.CommonIds.{row_of}
use Rattle.scale_info_table_diff.proofs.Listed.{join_zip}
use Rattle.scale_info_table_diff.proofs.NeverPaired.{is_changed}
use Rattle.scale_info_table_diff.specs.Differing.{AreMarks, HasChanged}
use Rattle.scale_info_table_diff.specs.TypesByPath.{ids_of}
use Rattle.scale_info_table_diff.proofs.marks.marks_of.Goals as goal

pub loop-index-preserved : goal.loop-index-preserved
loop-index-preserved c =
    let paths = c.args.paths.now in
    let i = c.loop-index.index in
    let path = get_or paths i c.index-paths-index.result in
    let pushed : c.push.new.self.items ≡ c.loop-index.marks.items ++ c.have_changed-mark.result ∷ [] = c.in_ok-push.ensures.items in (
      ap length pushed ∙ length-append c.loop-index.marks.items (c.have_changed-mark.result ∷ []) ∙ ap (λ n. n + 1) c.loop-index.invariant.0,
      λ types are y.
          let row =
          c.deref.ensures.value ∙ ap (λ v. v.items) c.index-ids-index.is
          ∙ row_of (λ v. v.items) types paths c.args.ids.now i c.index-paths-index.result c.index-ids-index.result
          c.loop-index-test.true c.requires y in
          let there = c.ids_of.ensures ∙ ap (λ p. ids_of p c.args.new.now) c.index-paths-index.is in
          subst (λ ps. AreMarks types c.args.new.now ps c.push.new.self.items)
          (sym (take_more paths i c.index-paths-index.result c.loop-index-test.true))
          (subst (AreMarks types c.args.new.now (take i paths ++ path ∷ [])) (sym pushed)
          (join_zip (λ p mark. mark ≡ true → HasChanged types c.args.new.now p) (take i paths) (path ∷ []) c.loop-index.marks.items
          (c.have_changed-mark.result ∷ [])
          (c.loop-index.invariant.1 types are y) (
            λ yes.
                let found = c.have_changed-mark.ensures yes types c.args.new.now are in
                is_changed types c.args.new.now path c.deref.result.now c.ids_of.result.now row there found.0 found.1,
            tt,
          ))),
    )
