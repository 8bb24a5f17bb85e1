use Rattle.scale_info_json_bytes.proofs.Objects.{whole_object}
use Rattle.scale_info_json_bytes.proofs.members.AnyTranscode.transcode.Goals as goal

pub returns : goal.returns
returns g c =
    let members = c.in_ok-rest.ensures.ok in
    let object =
    whole_object g.T.TranscodeMembers.encodes g.T.TranscodeMembers.rows members.value members.read
    c.in_ok-begin_object.ensures members.append c.in_ok-end_object.ensures in
    record { before = object.before; ok = object.ok; malformed = tt }
