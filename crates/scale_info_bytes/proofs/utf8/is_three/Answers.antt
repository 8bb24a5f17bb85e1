use Rattle.std.proofs.Common.{arith, refl, inl, inr, leb-true, ltb-true}
use Rattle.std.proofs.lemmas.Bool.{cases_lt}
use Rattle.scale_info_bytes.proofs.Chars.{utf8_of_three}
use Rattle.scale_info_bytes.proofs.utf8.is_three.Goals as goal

pub returns-in-224 : goal.returns-in-224
returns-in-224 c = λ t.
    let second = c.if-not-follows.ensures refl in
    let third = c.if-not-follows-2.ensures refl in
    let high = leb-true 160 c.args.b t in
    utf8_of_three c.args.a c.args.b c.args.c (omega arith) (omega arith) second third
    (omega arith) (inl (omega arith))

pub returns-in-237 : goal.returns-in-237
returns-in-237 c = λ t.
    let second = c.if-not-follows.ensures refl in
    let third = c.if-not-follows-2.ensures refl in
    let low = ltb-true c.args.b 160 t in
    utf8_of_three c.args.a c.args.b c.args.c (omega arith) (omega arith) second third
    (omega arith) (inl (omega arith))

pub returns-in-225-to-239 : goal.returns-in-225-to-239
returns-in-225-to-239 c = λ _.
    let second = c.if-not-follows.ensures refl in
    let third = c.if-not-follows-2.ensures refl in
    utf8_of_three c.args.a c.args.b c.args.c (omega arith) (omega arith) second third
    (omega arith)
    (elim (cases_lt c.args.a 237) [ inl before ↦ inl (omega arith) | inr after ↦ inr (omega arith) ])
