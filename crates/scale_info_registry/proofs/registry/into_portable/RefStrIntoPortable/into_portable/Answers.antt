use Rattle.std.proofs.Common.{[], subst}
use Rattle.scale_info_catalogue.specs.CatalogueSystems.{catalogue_system}
use Rattle.scale_info_registry.specs.Registrations.{registered, IsRegistration}
use Rattle.scale_info_registry.proofs.Registered.{registers_nothing}
use Rattle.scale_info_registry.proofs.registry.into_portable.RefStrIntoPortable.into_portable.Goals as goal

pub returns-clause-ok : goal.returns-clause-ok
returns-clause-ok c =
    let S = catalogue_system c.args._catalogue.now in
    subst (λ v. IsRegistration S v [] v) c.registry.view_is (registers_nothing S (registered c.registry.inside.identities c.registry.inside.types.items) c.elements-distinct.ensures.distinct)
