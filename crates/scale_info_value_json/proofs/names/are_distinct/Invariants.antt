use Rattle.std.proofs.Common.{◌≡◌, length, map}
use Rattle.scale_info_value_json.specs.TreeParts.{are_distinct}
use Rattle.scale_info_value_json.proofs.names.are_distinct.Given as goal

abbrev pub invariant-loop-rest : goal.invariant-loop-rest
invariant-loop-rest g l = are_distinct (map g.N.Named.named l.fields) ≡ are_distinct (map g.N.Named.named l.rest)

abbrev pub decreases-loop-rest : goal.decreases-loop-rest
decreases-loop-rest g l = length l.rest
