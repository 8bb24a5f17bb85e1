use Rattle.std.proofs.Common.{subst, sym}
use Rattle.std.proofs.lemmas.Result.{err_from_is_err_and}
use Rattle.scale_info_grammar.specs.Ty.{EncodesTypes}
use Rattle.scale_info_table_diff.proofs.Differences.{kept_encoding, only_memory}
use Rattle.scale_info_table_diff.proofs.first.pruned.Goals as goal

pub returns-in_err-kept-clause-cause : goal.returns-in_err-kept-clause-cause
returns-in_err-kept-clause-cause c =
    let made = c.in_ok-places.ensures.ok in
    let p =
    err_from_is_err_and c.from_residual-in_err-kept.result c.from_residual-in_err-kept.ensures.1 in
    rw (p.1, p.2)
    (only_memory made.2.kept c.deref.result.now c.args.table.now c.args.ids.now
    (subst (EncodesTypes made.2.kept) (sym c.deref.ensures.value)
    (kept_encoding c.args.table.now c.args.ids.now made.0 c.new-bytes.result.items c.prune.new.out.items
    c.new-bytes.ensures.items made.2))
    c.in_err-kept.field-0.0 c.in_err-kept.ensures.cause)
