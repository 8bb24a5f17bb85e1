use Rattle.std.proofs.Common.{◌<◌, ◌^◌, ℤ, pos, negsuc, subst, arith, to_z, of_z}
use Rattle.std.specs.Int.{w128}
use Rattle.std.specs.Prelude.{nat_abs}
use lib.Signed.{mag}
use Rattle.json.proofs.Printed.Decimals.{IsNumber-signed_decimal}
use Rattle.scale_info_value_text.proofs.writer.TextWriterValueVisitor.signed.Goals as goal

-- what is below 2^53 is below 2^63
small : (z : ℤ) → nat_abs z < 2 ^ 53 → mag z < 2 ^ 63
small (pos n) h = omega arith
small (negsuc n) h = omega arith

pub number-requires : goal.number-requires
number-requires c =
    rw c.format-digits.ensures.text
    (IsNumber-signed_decimal (to_z w128 (of_z w128 c.args.value))
    (small (to_z w128 (of_z w128 c.args.value)) (subst (λ n. n < 2 ^ 53) c.unsigned_abs.ensures.value c.if-unsigned_abs-lt-LIMIT.true)))
