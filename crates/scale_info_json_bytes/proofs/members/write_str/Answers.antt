use Rattle.std.proofs.Common.{refl}
use Rattle.serde_json.specs.Data.{string}
use Rattle.scale_info_json_bytes.proofs.Objects.{token_row}
use Rattle.scale_info_json_bytes.proofs.members.write_str.Goals as goal

pub returns : goal.returns
returns c =
    token_row c.args.key.now (string c.args.text.now) c.string.result c.in_ok-key.ensures
    c.string.ensures refl
