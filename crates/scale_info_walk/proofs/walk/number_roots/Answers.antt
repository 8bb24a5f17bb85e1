use Rattle.std.proofs.Common.{arith}
use Rattle.std.proofs.lemmas.Result.{err_from_is_err_and}
use Rattle.scale_info_walk.proofs.Visiting.{roots_begin, roots_more, roots_all, cause_at_root}
use Rattle.scale_info_walk.proofs.walk.number_roots.Goals as goal

pub loop-root-init : goal.loop-root-init
loop-root-init g c =
    roots_begin (g.R.References.system c.args.source.now) (g.R.References.count c.args.source.now) _ _ _
    c.requires.order c.requires.walk c.requires.steps

pub returns-in_err-visit-clause-cause : goal.returns-in_err-visit-clause-cause
returns-in_err-visit-clause-cause g c =
    let p = err_from_is_err_and c.from_residual.result c.from_residual.ensures.1 in
    rw (p.1, p.2)
    (cause_at_root (g.R.References.system c.args.source.now) (g.R.References.count c.args.source.now)
    c.loop-root.found.order.items c.args.roots.now c.loop-root.root-index 0 c.in_err-visit.field-0.0
    c.loop-root-test.true c.loop-root.invariant.0 c.in_err-visit.ensures.cause)

pub loop-root-preserved : goal.loop-root-preserved
loop-root-preserved g c =
    let counted = c.in_ok-visit.ensures.counted in
    let steps = c.loop-root.invariant.2 in (
      roots_more (g.R.References.system c.args.source.now) c.args.roots.now c.loop-root.found.order.items
          c.visit.new.walk.order.items c.loop-root.root-index 0 c.loop-root-test.true c.loop-root.invariant.0
          c.in_ok-visit.ensures.extends,
      c.in_ok-visit.ensures.walk,
      omega arith,
    )

pub returns-clause-ok : goal.returns-clause-ok
returns-clause-ok g c =
    record {
      numbering = roots_all (g.R.References.system c.args.source.now) c.args.roots.now c.loop-root.found.order.items
          c.loop-root.root-index c.loop-root-test.false c.loop-root.invariant.0;
      walk = c.loop-root.invariant.1;
      steps = c.loop-root.invariant.2;
    }
