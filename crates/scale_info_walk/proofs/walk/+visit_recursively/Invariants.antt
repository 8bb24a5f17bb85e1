use Rattle.std.proofs.Common.{◌-◌, ◌<◌, length}
use Rattle.scale_info_walk.proofs.Visiting.{WalksFrom}
use Rattle.scale_info_walk.proofs.walk.+visit_recursively.Given as goal

abbrev pub decreases-visit_recursively : goal.decreases-visit_recursively
decreases-visit_recursively g l =
    g.R.References.count l.source.now - length l.walk.now.order.items

abbrev pub invariant-loop-next : goal.invariant-loop-next
invariant-loop-next g l =
    WalksFrom (g.R.References.system l.source) (g.R.References.count l.source) l.fn.walk.order.items
    l.fn.walk.steps l.id l.walk.order.items l.walk.numbers.items l.walk.steps l.refs
    × (0 < length l.refs → length l.fn.walk.order.items < length l.walk.order.items)

abbrev pub decreases-loop-next : goal.decreases-loop-next
decreases-loop-next g l = length l.refs
