use Rattle.std.proofs.Common.{◌%◌, bit_and, ◌∙◌, arith}
use Rattle.std.proofs.lemmas.Simd.{zip2_splat}
use Rattle.hex.specs.Hex.{lower_digits}
use Rattle.scale_info_hexadecimal.proofs.Lanes.{second_are_places, looked_up, lower_four}
use Rattle.scale_info_hexadecimal.proofs.encode.second_digits.Goals as goal

pub swizzle : goal.swizzle
swizzle c = second_are_places c.args.bytes c.fits-bytes

pub returns : goal.returns
returns c =
    let v = c.args.bytes in
    looked_up lower_digits (λ x. x % 16) v _ c.fits-bytes
    (zip2_splat bit_and v 16 15 c.fits-bytes.0 ∙ lower_four v) (λ x h. omega arith)
