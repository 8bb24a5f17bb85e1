use Rattle.std.proofs.Common.{◌-◌, ◌≡◌, ◌≢◌, ◌+◌, ◌≤◌, ℕ, List, Some, length, map, slice_get}
use Rattle.std.specs.declared.cmp.Ordering.TheVariants.{Greater}
use Rattle.scale_info_interner.specs.ElementOrders.{first_against}
use Rattle.scale_info_interner.proofs.order.chunks_before.Given as goal

abbrev pub invariant-loop-low : goal.invariant-loop-low
invariant-loop-low g l =
    (l.high ≤ length l.chunks)
    × (l.low ≤ l.high)
    × ((c : ℕ) (chunk : List ℕ) → l.low ≡ c + 1
    → slice_get (map (λ v. v.items) l.chunks) c ≡ Some chunk
    → first_against g.T.Ord.cmp l.elements l.value chunk ≢ Greater)
    × ((chunk : List ℕ) → slice_get (map (λ v. v.items) l.chunks) l.high ≡ Some chunk
    → first_against g.T.Ord.cmp l.elements l.value chunk ≡ Greater)

abbrev pub decreases-loop-low : goal.decreases-loop-low
decreases-loop-low g l = l.high - l.low
