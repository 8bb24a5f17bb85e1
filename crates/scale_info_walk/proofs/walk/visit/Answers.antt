use Rattle.std.proofs.Common.{arith, ◌≡◌, ◌∷◌, [], ℕ, List, suc, length, ap, subst}
use Rattle.std.proofs.lemmas.Result.{err_from_is_err_and}
use Rattle.scale_info_numberings.proofs.WorkLists.{IsWalking, walk_ends}
use Rattle.scale_info_walk.proofs.Visiting.{first_look, walk_begins}
use Rattle.scale_info_walk.proofs.Visiting.{next_some, next_none, numbers_distinct, walk_inside}
use Rattle.scale_info_walk.proofs.Visiting.{walk_looks, look_counts}
use Rattle.scale_info_walk.proofs.Visiting.{look_shrinks, cause_through}
use Rattle.scale_info_walk.proofs.walk.visit.Goals as goal

pub loop-next-init : goal.loop-next-init
loop-next-init g c =
    let S = g.R.References.system c.args.source.now in
    walk_begins S (g.R.References.count c.args.source.now) _ c.args.walk.now.numbers.items _ _ _ _ c.args.id _ c.requires.dense
    (first_look S _ _ _ _ c.args.id c.new-refs.ensures c.in_ok-look.ensures.look) c.in_ok-look.ensures.walk
    c.in_ok-look.ensures.steps

pub loop-next-smaller : goal.loop-next-smaller
loop-next-smaller g c =
    let S = g.R.References.system c.args.source.now in
    let n = g.R.References.count c.args.source.now in
    let order = c.look-in-Some.new.walk.order.items in
    let walk = c.in_ok-look-2.ensures.walk in
    let e = next_some c.loop-next.refs c.next.new.self c.in-Some.next c.loop-next.walk.steps c.next.new.steps c.in-Some.ensures in
    let less =
    look_shrinks S n c.loop-next.walk.order.items c.next.new.self order c.look-in-Some.new.refs c.in-Some.next
    (numbers_distinct order c.look-in-Some.new.walk.numbers.items walk.dense)
    (walk_inside S n order c.look-in-Some.new.walk.numbers.items c.look-in-Some.new.walk.steps walk)
    c.in_ok-look-2.ensures.look in
    let long : length c.loop-next.refs ≡ suc (length c.next.new.self) = ap (λ (xs : List ℕ). length xs) e.0 in
    rw long less

pub loop-next-preserved : goal.loop-next-preserved
loop-next-preserved g c =
    let S = g.R.References.system c.args.source.now in
    let old = c.args.walk.now.order.items in
    let e = next_some c.loop-next.refs c.next.new.self c.in-Some.next c.loop-next.walk.steps c.next.new.steps c.in-Some.ensures in
    let long : length c.loop-next.refs ≡ suc (length c.next.new.self) = ap (λ (xs : List ℕ). length xs) e.0 in
    let stepped = e.1 in
    let look = c.in_ok-look-2.ensures.look in
    let counts = look_counts S c.loop-next.walk.order.items c.next.new.self c.look-in-Some.new.walk.order.items c.look-in-Some.new.refs c.in-Some.next look in
    let steps = c.in_ok-look-2.ensures.steps in
    let was = c.loop-next.invariant.2 in (
      walk_looks S old (c.args.id ∷ []) c.loop-next.walk.order.items c.next.new.self c.look-in-Some.new.walk.order.items c.look-in-Some.new.refs c.in-Some.next look
          (subst (λ (xs : List ℕ). IsWalking S old (c.args.id ∷ []) c.loop-next.walk.order.items xs) e.0 c.loop-next.invariant.0),
      c.in_ok-look-2.ensures.walk,
      omega arith,
    )

pub returns-in_err-look-2-clause-cause : goal.returns-in_err-look-2-clause-cause
returns-in_err-look-2-clause-cause g c =
    let S = g.R.References.system c.args.source.now in
    let old = c.args.walk.now.order.items in
    let p = err_from_is_err_and c.from_residual-in_err-look-2.result c.from_residual-in_err-look-2.ensures.1 in
    let e = next_some c.loop-next.refs c.next.new.self c.in-Some.next c.loop-next.walk.steps c.next.new.steps c.in-Some.ensures in
    rw (p.1, p.2)
    (cause_through S (g.R.References.count c.args.source.now) old (c.args.id ∷ []) c.loop-next.walk.order.items c.next.new.self c.in-Some.next c.in_err-look-2.field-0.0
    (subst (λ (xs : List ℕ). IsWalking S old (c.args.id ∷ []) c.loop-next.walk.order.items xs) e.0 c.loop-next.invariant.0) c.in_err-look-2.ensures.cause)

pub returns-clause-extends : goal.returns-clause-extends
returns-clause-extends g c =
    let S = g.R.References.system c.args.source.now in
    let old = c.args.walk.now.order.items in
    let e = next_none c.loop-next.refs c.next.new.self c.loop-next.walk.steps c.next.new.steps c.in_default.ensures in
    walk_ends S old (c.args.id ∷ []) c.loop-next.walk.order.items
    (subst (λ (xs : List ℕ). IsWalking S old (c.args.id ∷ []) c.loop-next.walk.order.items xs) e.0 c.loop-next.invariant.0)
