use Rattle.std.proofs.Common.{ap, sym, ◌∙◌}
use Rattle.std.specs.Int.{w128, cast_signed, cast_unsigned}
use Rattle.scale_info_value.specs.IntegerWidths.{width_of}
use Rattle.scale_info_value_encode.proofs.LowBytes.{too_wide_signed, signed_low, low_of_bits, same_bits}
use Rattle.scale_info_value_encode.proofs.integer.signed.Goals as goal

pub returns-then-with_sign-n-clause-err : goal.returns-then-with_sign-n-clause-err
returns-then-with_sign-n-clause-err c =
    let width = width_of c.args.width in
    too_wide_signed width c.args.n c.split_at.result.0.now
    (low_of_bits width c.args.n _ _ _ c.ranges.n c.to_le_bytes-all.ensures c.bytes.ensures c.split_at.ensures.front)
    (λ e. c.if-with_sign-n.true
    (ap (cast_unsigned w128) (c.with_sign.ensures.integer ∙ ap (cast_signed width) c.little_endian.ensures.integer ∙ e)))

pub returns-clause-ok : goal.returns-clause-ok
returns-clause-ok c =
    let width = width_of c.args.width in
    let is = same_bits c.with_sign.result c.args.n c.with_sign.ensures.range c.ranges.n c.if-with_sign-n.false in
    record {
      encoding = c.split_at.result.0.now;
      encodes =
          signed_low width c.args.n c.split_at.result.0.now
          (low_of_bits width c.args.n _ _ _ c.ranges.n c.to_le_bytes-all.ensures c.bytes.ensures c.split_at.ensures.front)
          (ap (cast_signed width) (sym c.little_endian.ensures.integer) ∙ sym c.with_sign.ensures.integer ∙ is);
      parts = c.in_ok-extend_from_slice.ensures.items;
    }
