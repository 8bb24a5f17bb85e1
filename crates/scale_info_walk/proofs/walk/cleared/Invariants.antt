use Rattle.std.proofs.Common.{◌≡◌, length}
use Rattle.scale_info_walk.proofs.Cleared.{AreLeftFrom}
use Rattle.scale_info_walk.proofs.walk.cleared.Given as goal

abbrev pub invariant-loop-id : goal.invariant-loop-id
invariant-loop-id l =
    AreLeftFrom l.fn.room.order.items l.id-index l.numbers.items
    × (length l.numbers.items ≡ length l.fn.room.numbers.items)
