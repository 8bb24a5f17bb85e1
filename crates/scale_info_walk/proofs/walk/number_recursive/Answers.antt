use Rattle.std.proofs.Common.{arith, length}
use Rattle.std.proofs.lemmas.Result.{err_from_is_err_and}
use Rattle.scale_info_numberings.proofs.Extensions.{one_numbering}
use Rattle.scale_info_walk.specs.TypeSystems.{types_system}
use Rattle.scale_info_walk.proofs.Visiting.{roots_begin, roots_more, roots_all, cause_at_root}
use Rattle.scale_info_walk.proofs.Visiting.{cause_before}
use Rattle.scale_info_walk.proofs.walk.number_recursive.Goals as goal

pub returns-in_err-found-clause-cause : goal.returns-in_err-found-clause-cause
returns-in_err-found-clause-cause c =
    let p = err_from_is_err_and c.from_residual.result c.from_residual.ensures.1 in
    rw (p.1, p.2)
    (cause_before (types_system c.args.types.now) (length c.args.types.now) c.args.roots.now
    c.in_err-found.field-0.0 c.in_err-found.ensures.cause)

pub loop-root-init : goal.loop-root-init
loop-root-init c =
    roots_begin (types_system c.args.types.now) (length c.args.types.now) _ _ _
    c.in_ok-found.ensures.order c.in_ok-found.ensures.walk c.in_ok-found.ensures.steps

pub returns-in_err-visit_recursively-clause-cause : goal.returns-in_err-visit_recursively-clause-cause
returns-in_err-visit_recursively-clause-cause c =
    let p = err_from_is_err_and c.from_residual-in_err-visit_recursively.result c.from_residual-in_err-visit_recursively.ensures.1 in
    rw (p.1, p.2)
    (cause_at_root (types_system c.args.types.now) (length c.args.types.now)
    c.loop-root.found.order.items c.args.roots.now c.loop-root.root-index 0 c.in_err-visit_recursively.field-0.0
    c.loop-root-test.true c.loop-root.invariant.0 c.in_err-visit_recursively.ensures.cause)

pub loop-root-preserved : goal.loop-root-preserved
loop-root-preserved c =
    let counted = c.in_ok-visit_recursively.ensures.counted in
    let steps = c.loop-root.invariant.2 in (
      roots_more (types_system c.args.types.now) c.args.roots.now c.loop-root.found.order.items
          c.visit_recursively.new.walk.order.items c.loop-root.root-index 0 c.loop-root-test.true c.loop-root.invariant.0
          c.in_ok-visit_recursively.ensures.extends,
      c.in_ok-visit_recursively.ensures.walk,
      omega arith,
    )

pub returns-clause-numbering : goal.returns-clause-numbering
returns-clause-numbering c =
    roots_all (types_system c.args.types.now) c.args.roots.now c.loop-root.found.order.items
    c.loop-root.root-index c.loop-root-test.false c.loop-root.invariant.0

pub returns-clause-only : goal.returns-clause-only
returns-clause-only c L x =
    one_numbering (types_system c.args.types.now) c.args.roots.now L c.loop-root.found.order.items x
    (roots_all (types_system c.args.types.now) c.args.roots.now c.loop-root.found.order.items
    c.loop-root.root-index c.loop-root-test.false c.loop-root.invariant.0)
