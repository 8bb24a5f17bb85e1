use Rattle.std.proofs.Common.{◌≡◌, Some, map, take}
use Rattle.scale_info_value_typed.specs.Meanings.{all_of}
use Rattle.scale_info_value_typed.specs.StandingValues.{each_at}
use Rattle.scale_info_value_typed.proofs.AllOf.{SoFar}
use Rattle.scale_info_value_typed.proofs.list.list_value.Given as goal

-- what stands for the items before the index, and that it is them
abbrev pub invariant-loop-index : goal.invariant-loop-index
invariant-loop-index g l =
    SoFar (each_at g.T.EncodeAs.value_at (g.D.Definitions.table l.table) l.place 0 l.all) l.index l.values
    × (all_of (map g.T.Shown.meant l.values) ≡ Some (map g.T.Shown.seen (take l.index l.all)))
