use Rattle.std.proofs.Common.{refl}
use Rattle.scale_info_bytes.proofs.Errors.{same_too_long}
use Rattle.scale_info_bytes.proofs.Steps.{no_second_part}
use Rattle.scale_info_export.proofs.borrowed.encode_entry.Goals as goal

pub returns-clause-too_long : goal.returns-clause-too_long
returns-clause-too_long c =
    same_too_long c.encode_description.result c.encode_description.result refl (λ n. no_second_part n)
    c.encode_description.ensures.too_long
