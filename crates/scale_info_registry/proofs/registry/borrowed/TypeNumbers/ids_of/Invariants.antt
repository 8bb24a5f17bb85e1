use Rattle.std.proofs.Common.{◌≡◌, ◌++◌, map}
use Rattle.std.specs.Vec.Iter.{into_iter_items}
use Rattle.scale_info_references.specs.Gathered.{targets}
use Rattle.scale_info_registry.specs.BorrowedTypes.{id_in}
use Rattle.scale_info_registry.proofs.registry.borrowed.TypeNumbers.ids_of.Given as goal

abbrev pub invariant-loop-ty : goal.invariant-loop-ty
invariant-loop-ty l =
    l.ids.items ++ map (id_in l.self) (targets (into_iter_items l.ty-iterator))
    ≡ map (id_in l.self) (targets l.fn.types.items)
