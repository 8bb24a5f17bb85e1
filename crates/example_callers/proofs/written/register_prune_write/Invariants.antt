use Rattle.std.proofs.Common.{[], ◌∷◌, take}
use Rattle.scale_info.specs.CatalogueSystems.{catalogue_system}
use Rattle.scale_info.specs.Discoveries.{roots_of}
use Rattle.scale_info.specs.Registrations.{IsRegistration, registered}
use Rattle.scale_info.specs.MetaDescriptions.{type_term}
use Rattle.example_callers.proofs.written.register_prune_write.Given as goal

abbrev pub invariant-loop-ty : goal.invariant-loop-ty
invariant-loop-ty g l =
    IsRegistration (catalogue_system l.fn.catalogue) (registered [] []) (type_term l.fn.first ∷ roots_of (take l.ty-index l.others)) l.registry
