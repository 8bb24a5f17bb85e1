use Rattle.std.proofs.Common.{◌≡◌, [], take}
use Rattle.scale_info_numberings.specs.Systems.{looks}
use Rattle.scale_info_numberings.specs.Extensions.{IsExtension}
use Rattle.scale_info_walk.specs.Walks.{IsWalk}
use Rattle.scale_info_walk.proofs.walk.number_roots.Given as goal

abbrev pub invariant-loop-root : goal.invariant-loop-root
invariant-loop-root g l =
    let S = g.R.References.system l.source in
    IsExtension S [] (take l.root-index l.roots) l.found.order.items
    × IsWalk S (g.R.References.count l.source) l.found.order.items l.found.numbers.items l.found.steps
    × (l.found.steps ≡ looks S l.found.order.items)
