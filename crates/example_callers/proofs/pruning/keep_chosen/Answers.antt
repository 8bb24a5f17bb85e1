use Rattle.std.proofs.Common.{map, subst}
use Rattle.std.proofs.lemmas.Result.{IfOk-weaker}
use Rattle.scale_info.proofs.Extensions.{one_numbering}
use Rattle.scale_info.specs.Tables.{IsTable}
use Rattle.scale_info.specs.Prunes.{HasNewIds}
use Rattle.scale_info.specs.TypeSystems.{entry_of, types_system}
use Rattle.example_callers.proofs.pruning.keep_chosen.Goals as goal

pub returns-clause-ok : goal.returns-clause-ok
returns-clause-ok g c = IfOk-weaker c.retain.result _ _ (λ new_ids x. (
  x.0,
  x.1,
  x.2,
  λ order numbering.
      let S = types_system c.args.table.now.types in
      let same = one_numbering S x.0 x.3.order order x.3.numbering numbering in (
        subst (λ o. IsTable S o (map entry_of c.retain.new.self.types)) same x.3.table,
        subst (λ o. HasNewIds o new_ids) same x.3.indices,
      ),
)) c.retain.ensures.ok
