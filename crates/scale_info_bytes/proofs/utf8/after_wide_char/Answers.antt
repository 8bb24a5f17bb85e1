use Rattle.std.proofs.Common.{arith, subst}
use Rattle.std.specs.Prelude.{IsUtf8}
use Rattle.scale_info_bytes.proofs.Ascii.{after_utf8, first_two, first_three, first_four}
use Rattle.scale_info_bytes.proofs.utf8.after_wide_char.Goals as goal

pub returns-in-len2-up-clause-utf8 : goal.returns-in-len2-up-clause-utf8
returns-in-len2-up-clause-utf8 c =
    let bytes = c.args.bytes.now in
    after_utf8 bytes 2 (subst IsUtf8 (first_two bytes (omega arith)) (c.is_two.ensures c.if-is_two.true))

pub returns-in-len3-up-clause-utf8 : goal.returns-in-len3-up-clause-utf8
returns-in-len3-up-clause-utf8 c =
    let bytes = c.args.bytes.now in
    after_utf8 bytes 3
    (subst IsUtf8 (first_three bytes (omega arith)) (c.is_three.ensures c.if-is_three.true))

pub returns-in-len4-up-clause-utf8 : goal.returns-in-len4-up-clause-utf8
returns-in-len4-up-clause-utf8 c =
    let bytes = c.args.bytes.now in
    after_utf8 bytes 4
    (subst IsUtf8 (first_four bytes (omega arith)) (c.is_four.ensures c.if-is_four.true))
