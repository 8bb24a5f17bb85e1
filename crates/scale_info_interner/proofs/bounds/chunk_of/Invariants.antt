use Rattle.std.proofs.Common.{◌-◌, ◌≡◌, ◌≢◌, ◌+◌, ◌≤◌, ◌^◌, ℕ}
use Rattle.std.specs.declared.cmp.Ordering.TheVariants.{Greater}
use Rattle.scale_info_interner.specs.ElementOrders.{against}
use Rattle.scale_info_interner.proofs.bounds.chunk_of.Given as goal

abbrev pub invariant-loop-bits : goal.invariant-loop-bits
invariant-loop-bits g l =
    (l.bits ≤ 64)
    × (l.number + 2 ^ l.bits ≤ 2 ^ 64)
    × ((i : ℕ) → l.number ≡ i + 1 → against g.T.Ord.cmp l.bounds l.value i ≢ Greater)
    × (against g.T.Ord.cmp l.bounds l.value (l.number + (2 ^ l.bits - 1)) ≡ Greater)

abbrev pub decreases-loop-bits : goal.decreases-loop-bits
decreases-loop-bits g l = l.bits
