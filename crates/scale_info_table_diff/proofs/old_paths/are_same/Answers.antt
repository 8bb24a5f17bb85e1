use Rattle.std.proofs.Common.{◌↔◌, IsTrue, subst}
use Rattle.std.proofs.lemmas.Result.{IfErr-weaker, IfOk-weaker}
use Rattle.scale_info_table_prune.specs.SameTypes.{HaveMatch, IsMatchError}
use Rattle.scale_info_table_diff.proofs.CommonIds.{given_ids}
use Rattle.scale_info_table_diff.proofs.Compared.{other_counts, tells_same}
use Rattle.scale_info_table_diff.proofs.Encoded.{compare_error}
use Rattle.scale_info_table_diff.specs.Differing.{unmarked}
use Rattle.scale_info_table_diff.proofs.old_paths.are_same.Goals as goal

pub returns-in-None-clause-ok : goal.returns-in-None-clause-ok
returns-in-None-clause-ok c = λ z.
    other_counts c.args.old.now c.args.new.now (unmarked c.args.paths.now c.args.marks.now)
    (rw c.in-None.is at (c.in_ok-common_ids.ensures c.args.old.now z))

pub returns-in-Some-clause-ok : goal.returns-in-Some-clause-ok
returns-in-Some-clause-ok c =
    IfOk-weaker c.same_types.result _ _
    (λ same tells z.
    tells_same c.args.old.now c.args.new.now (unmarked c.args.paths.now c.args.marks.now) c.deref.result.now
    c.deref-in-Some.result.now same
    (given_ids c.args.old.now c.args.new.now (unmarked c.args.paths.now c.args.marks.now) c.in-Some.common.items c.deref.result.now c.in-Some.others.items
    c.deref-in-Some.result.now c.deref.ensures.value c.deref-in-Some.ensures.value
    (rw c.in-Some.is at (c.in_ok-common_ids.ensures c.args.old.now z)))
    (subst (λ others. IsTrue same ↔ HaveMatch c.args.old.now c.deref.result.now others c.deref-in-Some.result.now)
    c.new.view_is tells))
    c.same_types.ensures.ok

pub returns-in-Some-clause-cause : goal.returns-in-Some-clause-cause
returns-in-Some-clause-cause c =
    IfErr-weaker c.same_types.result _ _
    (λ error why z.
    compare_error c.args.old.now c.args.new.now (unmarked c.args.paths.now c.args.marks.now) c.deref.result.now
    c.deref-in-Some.result.now
    (given_ids c.args.old.now c.args.new.now (unmarked c.args.paths.now c.args.marks.now) c.in-Some.common.items c.deref.result.now c.in-Some.others.items
    c.deref-in-Some.result.now c.deref.ensures.value c.deref-in-Some.ensures.value
    (rw c.in-Some.is at (c.in_ok-common_ids.ensures c.args.old.now z)))
    error
    (subst (λ others. IsMatchError c.args.old.now c.deref.result.now others c.deref-in-Some.result.now error)
    c.new.view_is why))
    c.same_types.ensures.cause
