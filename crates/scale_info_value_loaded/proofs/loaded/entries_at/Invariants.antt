use Rattle.std.proofs.Common.{◌≡◌, Some, map, slice_get, take}
use Rattle.scale_info_value_loaded.proofs.loaded.entries_at.Given as goal

abbrev pub invariant-loop-index : goal.invariant-loop-index
invariant-loop-index l =
    map Some l.entries.items ≡ map (λ index. slice_get l.view.types index) (take l.index-index l.order)
