use Rattle.std.proofs.Common.{◌≡◌, take}
use Rattle.scale_info_value_borrowed.specs.IntegerLists.{integers_of}
use Rattle.scale_info_value_borrowed.proofs.owned.integers.Given as goal

abbrev pub invariant-loop-index : goal.invariant-loop-index
invariant-loop-index l = l.copies ≡ take l.index (integers_of l.all)
