use Rattle.std.proofs.Common.{◌≡◌, ◌*◌, List, ℕ, drop, take}
use Rattle.hex.proofs.Pairs.{prepend}
use Rattle.hex.specs.Hex.{decode_pairs}
use Rattle.scale_info_hexadecimal.specs.Digits.{AreValues}
use Rattle.scale_info_hexadecimal.proofs.digits.put_bytes.Given as goal

abbrev pub invariant-bytes : goal.invariant-bytes
invariant-bytes l =
    (digits : List ℕ) → AreValues digits l.values
    → decode_pairs 0 digits
    ≡ prepend (take l.index l.bytes) (decode_pairs (2 * l.index) (drop (2 * l.index) digits))
