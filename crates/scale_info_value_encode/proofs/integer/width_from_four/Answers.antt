use Rattle.std.proofs.Common.{◌≡◌, ◌^◌, ◌/◌, ◌<◌, ◌≤◌, ◌-◌, ◌+◌, subst, ap, sym, ◌∙◌, arith}
use Rattle.scale_info_value_encode.proofs.LowBytes.{one_byte_less, some_left, below_16, found_width}
use Rattle.scale_info_value_encode.proofs.integer.width_from_four.Goals as goal

pub loop-high-preserved : goal.loop-high-preserved
loop-high-preserved c =
    let i = c.loop-high.invariant in
    let width = c.loop-high.width in
    let more : 256 ^ width ≤ c.args.n = some_left c.args.n width (subst (λ k. 0 < k) i.left c.loop-high-test.true) in
    let less : width < 16 = below_16 c.args.n width c.ranges.n.fits more in
    let one : width ≡ width + 1 - 1 = omega arith in
    record {
      low = omega (arith, i.low);
      most = omega arith;
      left = ap (λ k. k / 256) i.left ∙ one_byte_less c.args.n width;
      needed = λ h. subst (λ k. 256 ^ k ≤ c.args.n) one more;
    }

pub returns : goal.returns
returns c =
    let i = c.loop-high.invariant in
    let none : c.loop-high.high ≡ 0 = omega (arith, c.loop-high-test.false) in
    found_width c.args.n c.loop-high.width i.low i.most (sym i.left ∙ none) i.needed
