use Rattle.std.proofs.Common.{◌≡◌, ◌∙◌, ◌%◌, ◌^◌, sym, ap, leb, leb-false, eqb-true, map, replicate}
use Rattle.std.proofs.Common.{w8, arith}
use Rattle.std.proofs.lemmas.List.{length-map}
use Rattle.std.proofs.lemmas.Simd.{length-chunk, tops_compared, zip2_splat_left, mask_l-mod}
use Rattle.std.proofs.lemmas.Simd.{none_from_empty_mask}
use lib.Lanes.{chunk, mask_l}
use Rattle.scale_info_bytes.proofs.utf8.is_ascii_block.Goals as goal

pub returns : goal.returns
returns g c empty =
    let n = g.row.N in
    let block = chunk c.args.at n c.args.bytes.now in
    let long = length-chunk c.args.at n c.args.bytes.now c.requires.1 in
    let lanes = tops_compared w8 leb (replicate n 128) block ∙ zip2_splat_left leb 128 n block long in
    let none : mask_l (map (leb 128) block) ≡ 0 =
    sym (mask_l-mod (map (leb 128) block) 64 (omega (arith, length-map block (leb 128), long, c.requires.0)))
    ∙ ap (λ ms. mask_l ms % 2 ^ 64) (sym lanes) ∙ eqb-true _ _ empty in
    λ i from to. leb-false _ _
    (none_from_empty_mask (leb 128) c.args.bytes.now c.args.at n 0 c.requires.1 none i from to)
