use Rattle.std.proofs.Common.{◌≡◌, ◌++◌}
use Rattle.std.specs.Vec.Iter.{into_iter_items}
use Rattle.scale_info_value.specs.BuiltValues.{named}
use Rattle.scale_info_value.proofs.build.named_fields.Given as goal

abbrev pub invariant-loop-name : goal.invariant-loop-name
invariant-loop-name l = l.all ++ named (into_iter_items l.name-iterator) ≡ named l.fn.fields.items
