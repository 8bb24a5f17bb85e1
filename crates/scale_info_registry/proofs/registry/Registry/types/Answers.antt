use Rattle.std.proofs.Common.{rules}
use Rattle.std.proofs.Common.{subst}
use Rattle.scale_info_registry.specs.Registrations.{IsClosedRegistry}
use Rattle.scale_info_registry.proofs.registry.Registry.types.Goals as goal

pub returns-clause-closed : goal.returns-clause-closed
returns-clause-closed c = subst (λ r. IsClosedRegistry r) c.self.view_is c.self.invariant

pub invariant_of-result : goal.invariant_of-result
invariant_of-result c = search rules

pub returns-clause-list : goal.returns-clause-list
returns-clause-list c = search rules
