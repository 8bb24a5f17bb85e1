use Rattle.std.proofs.Common.{flat_map}
use Rattle.std.specs.List.{AllZip}
use Rattle.scale_info_catalogue.specs.CatalogueSystems.{catalogue_system}
use Rattle.scale_info_registry.specs.Registrations.{IsRegistration, IsConverted}
use Rattle.scale_info_registry.proofs.registry.Registry.convert_all.Given as goal

abbrev pub invariant-loop-item : goal.invariant-loop-item
invariant-loop-item g l =
    (goal.iterator-loop-item g).can_next l.item-iterator × (goal.iterator-loop-item g).is_finite l.item-iterator
    × IsRegistration (catalogue_system l.catalogue) l.fn.self (flat_map g.X.IntoPortable.roots l.yielded) l.self
    × AllZip (λ x o. IsConverted g.X.IntoPortable.replaced (g.X.IntoPortable.roots x) l.self x o) l.yielded l.outputs.items
