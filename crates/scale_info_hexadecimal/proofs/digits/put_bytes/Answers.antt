use Rattle.std.proofs.Common.{◌*◌, ◌+◌, ◌<◌, arith, length}
use Rattle.hex.proofs.Pairs.{decode_done, decode_start, decode_step}
use Rattle.scale_info_hexadecimal.proofs.DigitValues.{byte_of}
use Rattle.scale_info_hexadecimal.proofs.digits.put_bytes.Goals as goal

pub bytes-init : goal.bytes-init
bytes-init c digits are = decode_start digits c.args.bytes.now

pub bytes-preserved : goal.bytes-preserved
bytes-preserved c digits are =
    let within : 2 * c.bytes.index + 1 < length digits =
    omega (arith, are.same, c.requires, c.bytes-test.true) in
    decode_step digits c.bytes.bytes c.bytes.index _ within
    (omega (arith, c.bytes-test.true, c.bytes.auto.bytes))
    (byte_of digits c.args.values.now c.bytes.index c.from_le_bytes-pair.result are within
    c.from_le_bytes-pair.ensures)
    (c.bytes.invariant digits are)

pub returns-clause-pairs : goal.returns-clause-pairs
returns-clause-pairs c digits are =
    decode_done digits c.bytes.bytes c.bytes.index
    (omega (arith, c.bytes-test.false, c.bytes.auto.bytes))
    (omega (arith, are.same, c.requires, c.bytes-test.false)) (c.bytes.invariant digits are)
