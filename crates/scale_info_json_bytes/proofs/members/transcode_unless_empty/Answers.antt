use Rattle.std.proofs.Common.{arith}
use Rattle.scale_info_bytes.proofs.Lists.{no_count}
use Rattle.scale_info_json_bytes.proofs.Objects.{no_row, some_row}
use Rattle.scale_info_json_bytes.proofs.members.transcode_unless_empty.Goals as goal

pub returns-in-None-clause-malformed : goal.returns-in-None-clause-malformed
returns-in-None-clause-malformed g c = no_count g.T.Transcode.encodes _ c.in-None.ensures.none

pub returns-then-count-eq0-clause-ok : goal.returns-then-count-eq0-clause-ok
returns-then-count-eq0-clause-ok g c =
    no_row g.T.Transcode.encodes g.T.Transcode.written c.in-Some.count c.args.key.now _ _ _
    (omega arith) c.in-Some.ensures.some

pub returns-in_ok-rest-in-Some-clause-ok : goal.returns-in_ok-rest-in-Some-clause-ok
returns-in_ok-rest-in-Some-clause-ok g c =
    some_row g.T.Transcode.encodes g.T.Transcode.written c.in-Some.count c.args.key.now _ _ _ _ _
    (λ e. omega arith) c.in-Some.ensures.some c.in_ok-rest-in-Some.ensures.ok
