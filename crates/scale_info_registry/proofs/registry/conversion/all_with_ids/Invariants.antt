use Rattle.std.proofs.Common.{◌≡◌, take, map}
use Rattle.scale_info_identities.specs.contracts.type_id.TypeIdPartialEq.TheImpl.{ghosts as equals}
use Rattle.scale_info_registry.specs.Registrations.{index_in}
use Rattle.scale_info_registry.proofs.registry.conversion.all_with_ids.Given as goal

abbrev pub invariant-loop-part : goal.invariant-loop-part
invariant-loop-part g l =
    l.all ≡ map (g.P.HasTypes.with_ids (λ ty. index_in equals.eq l.ids.interner.now ty.identity))
    (take l.part-index l.part-items)
