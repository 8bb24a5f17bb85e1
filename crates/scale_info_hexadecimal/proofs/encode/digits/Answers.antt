use Rattle.std.proofs.Common.{◌/◌, map, slice_index, ap, ◌∙◌, length}
use Rattle.std.proofs.lemmas.List.{length-map}
use Rattle.hex.specs.Hex.{lower_digits}
use Rattle.scale_info_hexadecimal.proofs.Lanes.{interleaved, encoded, crossed}
use Rattle.scale_info_hexadecimal.proofs.encode.digits.Goals as goal

pub returns : goal.returns
returns c =
    let v = c.args.bytes in
    let first = c.first_digits.ensures in
    let second = c.second_digits.ensures in
    interleaved _ _ (ap length first ∙ length-map v _ ∙ c.fits-bytes.0)
    (ap length second ∙ length-map v _ ∙ c.fits-bytes.0)
    ∙ ap (λ a. crossed a c.second_digits.result) first
    ∙ ap (λ b. crossed (map (λ b. slice_index lower_digits (b / 16)) v) b) second
    ∙ encoded v
