use Rattle.std.proofs.Common.{◌-◌, ◌≡◌, ◌+◌, ◌≤◌, ℕ, Some, length, slice_get}
use Rattle.std.specs.declared.cmp.Ordering.TheVariants.{Less, Greater}
use Rattle.scale_info_interner.specs.ElementOrders.{against}
use Rattle.scale_info_interner.proofs.order.search.Given as goal

abbrev pub invariant-loop-low : goal.invariant-loop-low
invariant-loop-low g l =
    (l.high ≤ length l.chunk)
    × (l.low ≤ l.high)
    × ((i index : ℕ) → l.low ≡ i + 1 → slice_get l.chunk i ≡ Some index
    → against g.T.Ord.cmp l.elements l.value index ≡ Less)
    × ((index : ℕ) → slice_get l.chunk l.high ≡ Some index
    → against g.T.Ord.cmp l.elements l.value index ≡ Greater)

abbrev pub decreases-loop-low : goal.decreases-loop-low
decreases-loop-low g l = l.high - l.low
