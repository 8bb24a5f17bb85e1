use Rattle.std.proofs.Common.{◌≡◌, ◌++◌, reverse, length}
use Rattle.scale_info_catalogue.proofs.discovery.stack_up.Given as goal

abbrev pub invariant-loop-last : goal.invariant-loop-last
invariant-loop-last l = l.found.items ++ reverse l.pending.items ≡ l.fn.found.items ++ reverse l.fn.pending.items

abbrev pub decreases-loop-last : goal.decreases-loop-last
decreases-loop-last l = length l.found.items
