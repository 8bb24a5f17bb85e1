use Rattle.std.proofs.Common.{◌≡◌, map, take}
use Rattle.scale_info_registry.specs.BorrowedTypes.{id_in}
use Rattle.scale_info_registry.proofs.registry.borrowed.TypeNumbers.ids.Given as goal

abbrev pub invariant-loop-ty : goal.invariant-loop-ty
invariant-loop-ty l = l.ids.items ≡ map (id_in l.self) (take l.ty-index l.types)
