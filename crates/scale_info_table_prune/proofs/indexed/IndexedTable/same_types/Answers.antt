use Rattle.std.proofs.Common.{sym, inr}
use Rattle.std.proofs.lemmas.Result.{err_from_is_err_and}
use Rattle.scale_info_table_prune.proofs.Renumbering.{stays_inside, tells_match}
use Rattle.scale_info_table_prune.proofs.indexed.IndexedTable.same_types.Goals as goal

pub returns-in_err-other_bytes-clause-cause : goal.returns-in_err-other_bytes-clause-cause
returns-in_err-other_bytes-clause-cause c =
    let p = err_from_is_err_and c.from_residual-in_err-other_bytes.result c.from_residual-in_err-other_bytes.ensures.1 in
    rw (p.1, p.2) (inr (stays_inside c.in_ok-bytes.ensures.ok, c.in_err-other_bytes.ensures.cause))

pub returns-clause-ok : goal.returns-clause-ok
returns-clause-ok c =
    tells_match c.shape_and_references.ensures c.in_ok-bytes.ensures.ok c.in_ok-other_bytes.ensures.ok
    c.are_equal.result (rw (sym c.deref.ensures.value, sym c.deref-2.ensures.value, sym c.deref-3.ensures.value, sym c.deref-4.ensures.value) c.are_equal.ensures)

pub returns-clause-inside : goal.returns-clause-inside
returns-clause-inside c = stays_inside c.in_ok-bytes.ensures.ok

pub returns-clause-others_inside : goal.returns-clause-others_inside
returns-clause-others_inside c = stays_inside c.in_ok-other_bytes.ensures.ok
