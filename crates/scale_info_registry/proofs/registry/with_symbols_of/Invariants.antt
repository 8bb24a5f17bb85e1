use Rattle.std.proofs.Common.{◌≡◌, ◌++◌, map, take}
use Rattle.scale_info_identities.specs.contracts.type_id.TypeIdPartialEq.TheImpl.{ghosts as equals}
use Rattle.scale_info_types.specs.Portable.{Id}
use Rattle.scale_info_registry.specs.Registrations.{index_in}
use Rattle.scale_info_registry.proofs.registry.with_symbols_of.Given as goal

abbrev pub invariant-loop-ty : goal.invariant-loop-ty
invariant-loop-ty l =
    map (λ (s : Id). s.id) l.symbols.items
    ≡ map (λ (s : Id). s.id) l.fn.symbols.items
    ++ map (λ ty. index_in equals.eq l.ids.interner.now ty.identity) (take l.ty-index l.types)
