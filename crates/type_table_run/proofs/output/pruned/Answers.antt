use Rattle.std.proofs.Common.{rules, ◌≡◌, map, subst}
use Rattle.scale_info_table_prune.specs.Prunes.{IsPruneError}
use Rattle.type_table_io.specs.Ids.{id_in}
use Rattle.type_table_run.proofs.output.pruned.Goals as goal

pub returns-clause-err : goal.returns-clause-err
returns-clause-err c =
    let given = map id_in c.args.ids.now in
    let ids : c.deref.result.now ≡ given = search rules in
    let e = c.in-Err.error in
    let cause = subst (λ ids. IsPruneError c.args.input.now ids e) ids c.in-Err.ensures.cause in
    c.command_error.ensures.cause given c.args.input.now cause
