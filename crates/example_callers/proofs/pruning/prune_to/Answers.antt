use Rattle.std.proofs.Common.{map, subst}
use Rattle.std.proofs.lemmas.Result.{IfOk-weaker}
use Rattle.scale_info.proofs.Extensions.{one_numbering}
use Rattle.scale_info.specs.Tables.{IsTable}
use Rattle.scale_info.specs.Prunes.{HasNewIds}
use Rattle.scale_info.specs.TypeSystems.{entry_of, types_system}
use Rattle.example_callers.proofs.pruning.prune_to.Goals as goal

pub returns-clause-ok : goal.returns-clause-ok
returns-clause-ok c = IfOk-weaker c.prune.result _ _ (λ new_ids x.
    let p = x.2 in
    let q = p.pruned in (
      p.types,
      q.roots,
      p.encodes,
      q.are_roots,
      λ order numbering.
          let S = types_system p.types in
          let same = one_numbering S q.roots x.0 order q.numbering numbering in (
            subst (λ o. HasNewIds o new_ids) same x.1,
            (q.kept, subst (λ o. IsTable S o (map entry_of q.kept)) same q.table, q.appends),
          ),
    )) c.prune.ensures.ok
