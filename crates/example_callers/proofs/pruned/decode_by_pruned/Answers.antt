use Rattle.std.proofs.Common.{◌≡◌, IfOk, subst}
use Rattle.std.specs.Prelude.{IfErr}
use Rattle.scale_info.specs.Outcomes.{decoded, IsErrorOf}
use Rattle.example_callers.proofs.pruned.decode_by_pruned.Goals as goal

pub returns-clause-ok : goal.returns-clause-ok
returns-clause-ok c = λ whole kept id table at.
    let alike = c.reads_alike.ensures whole c.args.pruned.now kept table c.args.index id at 1 c.args.input.now in
    subst (λ o. IfOk c.decode_value.result (λ found. o ≡ decoded found.0 found.1.now)) alike c.decode_value.ensures.ok

pub returns-clause-err : goal.returns-clause-err
returns-clause-err c = λ whole kept id table at.
    let alike = c.reads_alike.ensures whole c.args.pruned.now kept table c.args.index id at 1 c.args.input.now in
    subst (λ o. IfErr c.decode_value.result (IsErrorOf o)) alike c.decode_value.ensures.err
