use Rattle.std.proofs.Common.{length}
use Rattle.std.specs.BTreeMap.{get_by}
use Rattle.std.specs.Cmp.Lexicographic.{slice_cmp}
use Rattle.std.specs.Ordering.{nat_cmp}
use Rattle.scale_info_value_json.proofs.ObjectNames.{IsSplit}
use Rattle.scale_info_value_json.proofs.names.is_object_by_map.Given as goal

abbrev pub invariant-loop-rest : goal.invariant-loop-rest
invariant-loop-rest g l =
    IsSplit g.N.Named.named l.fields l.rest (λ q. get_by (λ k. slice_cmp nat_cmp q k.now) l.later)

abbrev pub decreases-loop-rest : goal.decreases-loop-rest
decreases-loop-rest g l = length l.rest
