use Rattle.std.proofs.Common.{subst}
use Rattle.scale_info_registry.specs.Registrations.{IsClosedRegistry}
use Rattle.scale_info_registry.proofs.registry.closed.RegistryDescriptions.descriptions.Goals as goal

pub returns-clause-closed : goal.returns-clause-closed
returns-clause-closed c = subst (λ r. IsClosedRegistry r) c.self.view_is c.self.invariant
