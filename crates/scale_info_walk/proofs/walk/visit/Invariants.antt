use Rattle.std.proofs.Common.{length}
use Rattle.scale_info_walk.proofs.Visiting.{WalksFrom, work_left}
use Rattle.scale_info_walk.proofs.walk.visit.Given as goal

abbrev pub invariant-loop-next : goal.invariant-loop-next
invariant-loop-next g l =
    WalksFrom (g.R.References.system l.source) (g.R.References.count l.source) l.fn.walk.order.items
    l.fn.walk.steps l.id l.walk.order.items l.walk.numbers.items l.walk.steps l.refs

abbrev pub decreases-loop-next : goal.decreases-loop-next
decreases-loop-next g l =
    work_left (g.R.References.system l.source) (g.R.References.count l.source) l.walk.order.items (length l.refs)
