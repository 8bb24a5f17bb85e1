use Rattle.std.proofs.Common.{◌<◌, arith}
use Rattle.scale_info_value_visit.specs.Sizes.{values}
use Rattle.scale_info_value_visit.proofs.Sizes.{past_limit}
use Rattle.scale_info_value_visit.proofs.within.Limited.take.Goals as goal

pub returns-then-self-count-clause-err : goal.returns-then-self-count-clause-err
returns-then-self-count-clause-err g c = λ event is.
    let short : c.args.self.now.left < values event = let fewer = c.if-self-count.true in omega (arith, is) in
    past_limit event c.args.self.now.left (g.met.V.ValueVisitor.visited_none c.args.self.now.inner.now) short
