use Rattle.scale_info_bytes.proofs.Errors.{passed_malformed}
use Rattle.scale_info_bytes.proofs.Steps.{no_prefix_first, no_prefix_second, prefix_pair}
use Rattle.scale_info_json_bytes.proofs.Objects.{two_rows}
use Rattle.scale_info_bytes.proofs.Results.{malformed_in, ok_on}
use Rattle.scale_info_json_bytes.proofs.members.transcode_two.Goals as goal

pub returns-in_err-between-clause-malformed : goal.returns-in_err-between-clause-malformed
returns-in_err-between-clause-malformed g c =
    passed_malformed c.from_residual.result c.in_err-between.field-0.0 c.from_residual.ensures.1
    (λ n. no_prefix_first {R = g.B.Transcode.encodes} n) c.in_err-between.ensures.malformed

pub returns-clause-ok : goal.returns-clause-ok
returns-clause-ok g c =
    let first = c.in_ok-between.ensures.ok in
    ok_on c.transcode_member-2.result
    (λ rest second. record {
      value = (first.value, second.value);
      read =
          prefix_pair {S = g.A.Transcode.encodes} {R = g.B.Transcode.encodes}
          {v = (first.value, second.value)} first.read second.read;
      append = two_rows first.appends second.appends;
    })
    c.transcode_member-2.ensures.ok

pub returns-clause-malformed : goal.returns-clause-malformed
returns-clause-malformed g c =
    malformed_in c.transcode_member-2.result
    (λ n. no_prefix_second g.met.A.Transcode.law c.in_ok-between.ensures.ok.read n)
    c.transcode_member-2.ensures.malformed
