use Rattle.std.proofs.Common.{◌≡◌, length, map, take}
use Rattle.scale_info_numberings.specs.Tables.{ArePlaces}
use Rattle.scale_info_types.specs.Portable.{Id}
use Rattle.scale_info_catalogue.specs.Discoveries.{nodes_of, roots_of}
use Rattle.scale_info_registry.proofs.registry.known_symbols.Given as goal

abbrev pub invariant-loop-ty : goal.invariant-loop-ty
invariant-loop-ty l =
    (length l.symbols.items ≡ l.ty-index)
    × ArePlaces (nodes_of l.identities) (roots_of (take l.ty-index l.types)) (map (λ (s : Id). s.id) l.symbols.items)
