use Rattle.scale_info_walk.proofs.NumberMaps.{HasNumbers}
use Rattle.scale_info_walk.proofs.numbers.map_of_numbers.Given as goal

abbrev pub invariant-loop-old : goal.invariant-loop-old
invariant-loop-old l = HasNumbers l.numbers l.old l.new_ids
