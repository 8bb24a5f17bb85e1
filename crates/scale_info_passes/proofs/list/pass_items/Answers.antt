use Rattle.std.proofs.Common.{arith}
use Rattle.scale_info_bytes.proofs.Steps.{no_next}
use Rattle.scale_info_passes.proofs.Passes.{visited_item, visited_no_items}
use Rattle.scale_info_bytes.proofs.Options.{none_is}
use Rattle.scale_info_passes.proofs.list.pass_items.Goals as goal

pub loop-init : goal.loop-init
loop-init g c = visited_no_items (g.met.V.Visitor.visited_none c.args.visitor.now)

pub returns-in_err-rest-clause-none : goal.returns-in_err-rest-clause-none
returns-in_err-rest-clause-none g c =
    let p = c.loop.invariant in
    none_is c.from_residual.result
    (record { none = no_next g.T.Pass.encodes g.met.T.Pass.law p.values c.args.input.now c.loop.rest.now c.args.count (omega (arith, p.count)) p.by.prefix c.in_err-rest.ensures.none })

pub loop-preserved : goal.loop-preserved
loop-preserved g c =
    visited_item g.met.V.Visitor.visited_append c.loop.invariant c.in_ok-rest.ensures.some
