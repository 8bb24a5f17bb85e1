use Rattle.std.proofs.Common.{◌≡◌, [], take, length}
use Rattle.scale_info_numberings.specs.Systems.{looks}
use Rattle.scale_info_numberings.specs.Extensions.{IsExtension}
use Rattle.scale_info_walk.specs.TypeSystems.{types_system}
use Rattle.scale_info_walk.specs.Walks.{IsWalk}
use Rattle.scale_info_walk.proofs.walk.number_recursive.Given as goal

abbrev pub invariant-loop-root : goal.invariant-loop-root
invariant-loop-root l =
    let S = types_system l.types in
    IsExtension S [] (take l.root-index l.roots) l.found.order.items
    × IsWalk S (length l.types) l.found.order.items l.found.numbers.items l.found.steps
    × (l.found.steps ≡ looks S l.found.order.items)
