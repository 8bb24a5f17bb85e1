use Rattle.std.proofs.lemmas.Result.{err_from_is_err_and}
use Rattle.scale_info_walk.proofs.Visiting.{cause_before}
use Rattle.scale_info_walk.proofs.walk.number_references.Goals as goal

pub returns-in_err-found-clause-cause : goal.returns-in_err-found-clause-cause
returns-in_err-found-clause-cause g c =
    let p = err_from_is_err_and c.from_residual.result c.from_residual.ensures.1 in
    rw (p.1, p.2)
    (cause_before (g.R.References.system c.args.source.now) (g.R.References.count c.args.source.now) c.args.roots.now
    c.in_err-found.field-0.0 c.in_err-found.ensures.cause)
