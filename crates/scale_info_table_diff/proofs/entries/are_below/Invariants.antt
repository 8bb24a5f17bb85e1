use Rattle.std.proofs.Common.{◌<◌, All, take}
use Rattle.scale_info_table_diff.proofs.entries.are_below.Given as goal

abbrev pub invariant-loop-id : goal.invariant-loop-id
invariant-loop-id l = All (λ id. id < l.count) (take l.id-index l.ids)
