use Rattle.std.proofs.Common.{◌≡◌, ◌++◌, ℕ, List, length, reverse}
use Rattle.scale_info_walk.proofs.refs.push_reversed.Given as goal

abbrev pub invariant-loop-last : goal.invariant-loop-last
invariant-loop-last l =
    (l.rest ++ reverse l.left.items ≡ l.ids ++ reverse l.fn.left.items)
    × ((more : List ℕ) × (l.left.items ≡ l.fn.left.items ++ more))

abbrev pub decreases-loop-last : goal.decreases-loop-last
decreases-loop-last l = length l.rest
