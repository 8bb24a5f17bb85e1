use Rattle.std.proofs.Common.{◌≡◌, ℕ, ◌+◌, ◌-◌, length, refl, arith}
use Rattle.hex.specs.Hex.{encode_with}
use Rattle.scale_info_hexadecimal.proofs.Encoded.{sixteen_more, of_fewer, of_all}
use Rattle.scale_info_hexadecimal.proofs.encode.write_many.Goals as goal

pub loop-at-init : goal.loop-at-init
unfolding encode_with
loop-at-init c = (omega arith, refl)

pub loop-at-preserved : goal.loop-at-preserved
loop-at-preserved c =
    let bytes = c.args.bytes.now in
    let at = c.loop-at.at in
    let first = sixteen_more bytes _ _ at c.loop-at.invariant.1 c.write_sixteen.ensures in
    let second = sixteen_more bytes _ _ (at + 16) first c.write_sixteen-in-loop-at.ensures in
    let both : at + 16 + 16 ≡ at + 32 = omega arith in
    (omega arith, rw both at second)

pub returns : goal.returns
returns c =
    let bytes = c.args.bytes.now in
    let last : ℕ = length bytes - 16 in
    let next = c.min.result in
    let written = c.loop-at.invariant.1 in
    let front = of_fewer bytes _ c.loop-at.at next (omega arith) (omega arith) written in
    let more = sixteen_more bytes _ _ next front c.write_sixteen-2.ensures in
    let before = of_fewer bytes _ (next + 16) last (omega arith) (omega arith) more in
    let all = sixteen_more bytes _ _ last before c.write_sixteen-3.ensures in
    of_all bytes c.write_sixteen-3.new.out (last + 16) (omega arith) (omega arith) all
