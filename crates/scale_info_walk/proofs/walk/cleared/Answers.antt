use Rattle.std.proofs.Common.{◌<◌, ◌≤◌, ◌∙◌, length, get_or, rules, subst, arith}
use Rattle.std.proofs.lemmas.List.{length-set}
use Rattle.scale_info_walk.proofs.Cleared.{AreLeftFrom, left_last, left_next, left_past, read_of}
use Rattle.scale_info_walk.proofs.walk.cleared.Goals as goal

pub loop-id-preserved-in_default : goal.loop-id-preserved-in_default
loop-id-preserved-in_default c =
    let ids = c.deref-id-items.result.now in
    let i = c.loop-id.id-index in
    let at = read_of ids c.args.room.order.items i (search rules) c.loop-id-test.true in
    let past : length c.loop-id.numbers.items ≤ get_or ids i 0 = search rules in
    (left_past _ _ i (get_or ids i 0) at past c.loop-id.invariant.0, c.loop-id.invariant.1)

pub loop-id-preserved : goal.loop-id-preserved
loop-id-preserved c =
    let ids = c.deref-id-items.result.now in
    let i = c.loop-id.id-index in
    let at = read_of ids c.args.room.order.items i (search rules) c.loop-id-test.true in
    let within : get_or ids i 0 < length c.loop-id.numbers.items = search rules in (
      left_next _ _ i (get_or ids i 0) at within c.loop-id.invariant.0,
      length-set c.loop-id.numbers.items (get_or ids i 0) 4294967295 ∙ c.loop-id.invariant.1,
    )

pub returns-clause-dense : goal.returns-clause-dense
returns-clause-dense c =
    left_last c.args.room.order.items c.loop-id.numbers.items
    (subst (λ i. AreLeftFrom c.args.room.order.items i c.loop-id.numbers.items) (omega arith) c.loop-id.invariant.0)
