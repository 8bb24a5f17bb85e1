use Rattle.std.proofs.Common.{subst}
use Rattle.scale_info_bytes.specs.Encodings.{HasNoPrefix, IfMalformed}
use Rattle.scale_info_table.specs.TableEncoding.{EncodesRegistry}
use Rattle.scale_info_table_diff.proofs.Encoded.{no_types}
use Rattle.scale_info_table_diff.proofs.named.table_of.Goals as goal

pub returns-in-Err-Malformed-clause-cause : goal.returns-in-Err-Malformed-clause-cause
returns-in-Err-Malformed-clause-cause c =
    no_types c.args.bytes.now
    (subst (IfMalformed (HasNoPrefix EncodesRegistry c.args.bytes.now)) c.in-Err-Malformed.field-0-is
    c.in-Err-Malformed.ensures.malformed)
