use Rattle.std.proofs.Common.{rules, arith, ◌≡◌, ◌-◌, ◌<◌, ◌≤◌, ◌∷◌, [], ℕ, List, suc, length, ap}
use Rattle.std.proofs.Common.{subst}
use Rattle.std.proofs.lemmas.Result.{err_from_is_err_and}
use Rattle.scale_info_numberings.proofs.Places.{begins_long}
use Rattle.scale_info_numberings.proofs.WorkLists.{IsWalking, walk_ends}
use Rattle.scale_info_walk.proofs.Visiting.{first_look, walk_begins}
use Rattle.scale_info_walk.proofs.Visiting.{next_some, next_none}
use Rattle.scale_info_walk.proofs.Visiting.{walk_steps, walk_long}
use Rattle.scale_info_walk.proofs.Visiting.{look_grows, walk_visits, cause_through}
use Rattle.scale_info_walk.proofs.walk.+visit_recursively.Goals as goal

pub loop-next-init : goal.loop-next-init
loop-next-init g t c =
    let S = g.R.References.system c.args.source.now in
    let look =
    first_look S _ _ _ _ c.args.id c.new-refs.ensures c.in_ok-look.ensures.look in (
      walk_begins S (g.R.References.count c.args.source.now) _ c.args.walk.now.numbers.items _ _ _ _ c.args.id _ c.requires.dense look
          c.in_ok-look.ensures.walk c.in_ok-look.ensures.steps,
      look_grows S c.args.walk.now.order.items c.look.new.walk.order.items c.look.new.refs c.args.id look,
    )

pub visit_recursively-requires : goal.visit_recursively-requires
visit_recursively-requires g t c κs within =
    let S = g.R.References.system c.args.source.now in
    let n = g.R.References.count c.args.source.now in
    let order = c.loop-next.walk.order.items in
    let numbers = c.loop-next.walk.numbers.items in
    let e = next_some c.loop-next.refs c.next.new.self c.in-Some.next c.loop-next.walk.steps c.next.new.steps c.in-Some.ensures in
    let long : length c.loop-next.refs ≡ suc (length c.next.new.self) = ap (λ (xs : List ℕ). length xs) e.0 in
    let stepped = e.1 in
    let grew : length c.args.walk.now.order.items < length order = c.loop-next.invariant.1 (omega arith) in
    let fits : length order ≤ n = walk_long S n order numbers c.loop-next.walk.steps c.loop-next.invariant.0.1 in
    let room : n - length order < n - length c.args.walk.now.order.items = omega arith in
    let was = c.loop-next.invariant.0.2 in
    let counted = c.requires.counted in
    (search rules, (search rules, walk_steps S n order numbers c.loop-next.walk.steps c.next.new.steps c.loop-next.invariant.0.1 (omega arith)))

pub loop-next-preserved : goal.loop-next-preserved
loop-next-preserved g t c =
    let S = g.R.References.system c.args.source.now in
    let old = c.args.walk.now.order.items in
    let order = c.loop-next.walk.order.items in
    let new = c.visit_recursively.new.walk.order.items in
    let e = next_some c.loop-next.refs c.next.new.self c.in-Some.next c.loop-next.walk.steps c.next.new.steps c.in-Some.ensures in
    let long : length c.loop-next.refs ≡ suc (length c.next.new.self) = ap (λ (xs : List ℕ). length xs) e.0 in
    let stepped = e.1 in
    let counts = c.in_ok-visit_recursively.ensures.counted in
    let was = c.loop-next.invariant.0.2 in
    let grew : length old < length order = c.loop-next.invariant.1 (omega arith) in
    let more = begins_long order new c.in_ok-visit_recursively.ensures.extends.1.begins in (
      (
        walk_visits S old (c.args.id ∷ []) order new c.next.new.self c.in-Some.next
            (subst (λ (xs : List ℕ). IsWalking S old (c.args.id ∷ []) order xs) e.0 c.loop-next.invariant.0.0)
            c.in_ok-visit_recursively.ensures.extends,
        c.in_ok-visit_recursively.ensures.walk,
        omega arith,
      ),
      λ some. omega arith,
    )

pub returns-in_err-visit_recursively-clause-cause : goal.returns-in_err-visit_recursively-clause-cause
returns-in_err-visit_recursively-clause-cause g t c =
    let S = g.R.References.system c.args.source.now in
    let old = c.args.walk.now.order.items in
    let p = err_from_is_err_and c.from_residual-in_err-visit_recursively.result c.from_residual-in_err-visit_recursively.ensures.1 in
    let e = next_some c.loop-next.refs c.next.new.self c.in-Some.next c.loop-next.walk.steps c.next.new.steps c.in-Some.ensures in
    rw (p.1, p.2)
    (cause_through S (g.R.References.count c.args.source.now) old (c.args.id ∷ []) c.loop-next.walk.order.items c.next.new.self c.in-Some.next c.in_err-visit_recursively.field-0.0
    (subst (λ (xs : List ℕ). IsWalking S old (c.args.id ∷ []) c.loop-next.walk.order.items xs) e.0 c.loop-next.invariant.0.0) c.in_err-visit_recursively.ensures.cause)

pub returns-clause-extends : goal.returns-clause-extends
returns-clause-extends g t c =
    let S = g.R.References.system c.args.source.now in
    let old = c.args.walk.now.order.items in
    let e = next_none c.loop-next.refs c.next.new.self c.loop-next.walk.steps c.next.new.steps c.in_default.ensures in
    walk_ends S old (c.args.id ∷ []) c.loop-next.walk.order.items
    (subst (λ (xs : List ℕ). IsWalking S old (c.args.id ∷ []) c.loop-next.walk.order.items xs) e.0 c.loop-next.invariant.0.0)
