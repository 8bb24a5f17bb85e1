use Rattle.std.proofs.Common.{option_map, string_bytes}
use Rattle.std.proofs.lemmas.Result.{on_ok_weaker}
use Rattle.type_reader_run.proofs.diff.append_change.Goals as goal

pub returns-in_ok-reason-in-Changed-clause-ok : goal.returns-in_ok-reason-in-Changed-clause-ok
returns-in_ok-reason-in-Changed-clause-ok c =
    rw c.in-Changed.is
    (on_ok_weaker c.append_reasoned.result
    (λ appended. (
      option_map string_bytes c.in_ok-reason-in-Changed.reason,
      c.in_ok-reason-in-Changed.ensures.ok,
      appended,
    ))
    c.append_reasoned.ensures)
