use Rattle.std.proofs.Common.{◌≡◌, ◌≤◌, length, map, take}
use Rattle.scale_info_interner.specs.ElementOrders.{IsElementOrder}
use Rattle.scale_info_interner.proofs.interner.Interner.truncate.Given as goal

abbrev pub invariant-loop-self : goal.invariant-loop-self
invariant-loop-self g l =
    IsElementOrder g.T.Ord.cmp l.self-inside.elements.items
    (map (λ v. v.items) l.self-inside.chunks.items)
    × (length l.self-inside.elements.items ≤ 4294967295)
    × (take l.len l.self-inside.elements.items ≡ take l.len l.fn.self)

abbrev pub decreases-loop-self : goal.decreases-loop-self
decreases-loop-self g l = length l.self-inside.elements.items
