use Rattle.std.proofs.Common.{◌∙◌, subst}
use Rattle.std.proofs.lemmas.Result.{IfOk-weaker}
use Rattle.scale_info_table_diff.specs.Differing.{AreDiffering}
use Rattle.scale_info_table_diff.proofs.marks.changed_paths.Goals as goal

pub returns-clause-marks : goal.returns-clause-marks
returns-clause-marks c =
    let found = c.in_ok-found.found in
    let are =
    subst (λ types. AreDiffering types c.args.new.now found.pairs.items.items found.marks.items) c.in_ok-entries.ensures
    (subst (λ others. AreDiffering c.in_ok-entries.entries.table.now others found.pairs.items.items found.marks.items)
    (c.in_ok-others.ensures ∙ c.new.view_is) c.in_ok-found.ensures) in
    IfOk-weaker c.marks_of.result _ _ (λ marks says rows. says c.args.old.now are rows) c.marks_of.ensures.marks
