use Rattle.std.proofs.Common.{◌≡◌, take, map}
use Rattle.scale_info_identities.specs.contracts.type_id.TypeIdPartialEq.TheImpl.{ghosts as equals}
use Rattle.scale_info_registry.specs.Registrations.{index_in}
use Rattle.scale_info_references.specs.Conversions.{symbol}
use Rattle.scale_info_registry.proofs.registry.conversion.ItemsMetaTypeHasTypes.with_ids.Given as goal

abbrev pub invariant-loop-ty : goal.invariant-loop-ty
invariant-loop-ty l =
    l.all ≡ map (λ ty. symbol (index_in equals.eq l.ids.interner.now ty.identity))
    (take l.ty-index l.ty-items)
