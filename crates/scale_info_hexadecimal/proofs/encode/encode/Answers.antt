use Rattle.std.proofs.Common.{IsUtf8}
use Rattle.scale_info_hexadecimal.proofs.Encoded.{text_utf8}
use Rattle.scale_info_hexadecimal.proofs.encode.encode.Goals as goal

pub unreachable-requires : goal.unreachable-requires
unreachable-requires c =
    let all = c.in_ok-prefixed_digits.ensures in
    let utf8 : IsUtf8 c.in_ok-prefixed_digits.field-0.items = rw all (text_utf8 c.args.bytes.now) in
    let ok = c.from_utf8.ensures.succeeds utf8 in
    cc (rw c.in-Err.is at ok)
