use Rattle.std.proofs.Common.{arith}
use Rattle.std.proofs.lemmas.Bool.{ltb-false, ltb-true}
use Rattle.scale_info_hexadecimal.proofs.DigitValues.{all_values, no_values, values_more}
use Rattle.scale_info_hexadecimal.proofs.digits.put_values.Goals as goal

pub digits-init : goal.digits-init
digits-init c = no_values c.args.digits.now c.args.values.now c.requires

pub digits-preserved : goal.digits-preserved
digits-preserved c =
    values_more c.args.digits.now c.digits.values c.digits.index c.digits.greatest
    c.value_of-value.result c.max-greatest.result c.digits.invariant
    (omega (arith, c.digits-test.true, c.digits.auto.values)) c.value_of-value.ensures
    c.max-greatest.ensures

pub returns-clause-all : goal.returns-clause-all
returns-clause-all c less =
    all_values c.args.digits.now c.digits.values c.digits.index c.digits.greatest
    c.digits.invariant (omega (arith, c.digits-test.false, c.digits.auto.values))
    (ltb-true c.digits.greatest 16 less)

pub returns-clause-none : goal.returns-clause-none
returns-clause-none c no_less =
    c.digits.invariant.none (ltb-false c.digits.greatest 16 no_less)
