use Rattle.std.proofs.Common.{◌≡◌, ◌++◌}
use Rattle.std.specs.Vec.Iter.{into_iter_items}
use Rattle.scale_info_value.specs.BuiltValues.{unnamed}
use Rattle.scale_info_value.proofs.build.unnamed_fields.Given as goal

abbrev pub invariant-loop-value : goal.invariant-loop-value
invariant-loop-value l = l.all ++ unnamed (into_iter_items l.value-iterator) ≡ unnamed l.fn.values.items
