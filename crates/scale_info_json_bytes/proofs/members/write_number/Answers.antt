use Rattle.std.proofs.Common.{refl}
use Rattle.serde_json.specs.Data.{number, unsigned}
use Rattle.scale_info_json_bytes.proofs.Objects.{token_row}
use Rattle.scale_info_json_bytes.proofs.members.write_number.Goals as goal

pub returns : goal.returns
returns c =
    token_row c.args.key.now (number (unsigned c.args.value)) c.u64.result c.in_ok-key.ensures
    c.u64.ensures refl
