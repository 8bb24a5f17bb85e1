use Rattle.scale_info_json_bytes.proofs.Objects.{member_row}
use Rattle.scale_info_json_bytes.proofs.members.transcode_member.Goals as goal

pub returns-clause-ok : goal.returns-clause-ok
returns-clause-ok g c =
    let one = c.in_ok-rest.ensures.ok in
    record {
      value = one.value;
      read = one.read;
      appends =
          member_row c.args.key.now (g.T.Transcode.written one.value)
          c.in_ok-key.ensures c.in_ok-rest.ensures.before one.tokens;
    }
