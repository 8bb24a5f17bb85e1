use Rattle.std.proofs.Common.{◌≡◌, ◌++◌, ℕ, List, length, map, reverse}
use Rattle.scale_info_references.specs.Gathered.{targets}
use Rattle.scale_info_types.specs.Portable.{Id}
use Rattle.scale_info_walk.proofs.refs.push_symbols.Given as goal

abbrev pub invariant-loop-last : goal.invariant-loop-last
invariant-loop-last l =
    (map (λ (symbol : Id). symbol.id) (targets l.found.items) ++ reverse l.left.items
    ≡ map (λ (symbol : Id). symbol.id) (targets l.fn.found.items) ++ reverse l.fn.left.items)
    × ((more : List ℕ) × (l.left.items ≡ l.fn.left.items ++ more))

abbrev pub decreases-loop-last : goal.decreases-loop-last
decreases-loop-last l = length l.found.items
