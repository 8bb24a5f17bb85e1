use Rattle.std.proofs.Common.{string_bytes}
use Rattle.std.proofs.lemmas.Result.{IfOk-weaker}
use Rattle.scale_info_calls.proofs.Differences.{differs}
use Rattle.scale_info_calls.proofs.same.told.Goals as goal

pub returns-clause-ok : goal.returns-clause-ok
returns-clause-ok c =
    IfOk-weaker c.difference.result _ _
    (λ text.
    differs c.args.first.now c.args.second.now c.args.id c.args.other (string_bytes text)
    c.in_ok-are_same.field-0 c.if-branch.false c.in_ok-are_same.ensures.ok)
    c.difference.ensures.ok
