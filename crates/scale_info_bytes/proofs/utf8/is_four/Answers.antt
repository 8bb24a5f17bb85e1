use Rattle.std.proofs.Common.{arith, refl, leb-true, ltb-true}
use Rattle.scale_info_bytes.proofs.Chars.{utf8_of_four}
use Rattle.scale_info_bytes.proofs.utf8.is_four.Goals as goal

pub returns-in-240 : goal.returns-in-240
returns-in-240 c = λ t.
    let second = c.if-not-follows.ensures refl in
    let third = c.if-not-follows-2.ensures refl in
    let fourth = c.if-not-follows-3.ensures refl in
    let high = leb-true 144 c.args.b t in
    utf8_of_four c.args.a c.args.b c.args.c c.args.d (omega arith) second third fourth
    (omega arith) (omega arith)

pub returns-in-244 : goal.returns-in-244
returns-in-244 c = λ t.
    let second = c.if-not-follows.ensures refl in
    let third = c.if-not-follows-2.ensures refl in
    let fourth = c.if-not-follows-3.ensures refl in
    let low = ltb-true c.args.b 144 t in
    utf8_of_four c.args.a c.args.b c.args.c c.args.d (omega arith) second third fourth
    (omega arith) (omega arith)

pub returns-in-241-to-243 : goal.returns-in-241-to-243
returns-in-241-to-243 c = λ _.
    let second = c.if-not-follows.ensures refl in
    let third = c.if-not-follows-2.ensures refl in
    let fourth = c.if-not-follows-3.ensures refl in
    utf8_of_four c.args.a c.args.b c.args.c c.args.d (omega arith) second third fourth
    (omega arith) (omega arith)
