use Rattle.scale_info_registry.proofs.Conversions.{ids_into}
use Rattle.scale_info_registry.proofs.registry.into_portable.TypeDefMapIntoPortable.into_portable.Goals as goal

pub returns-clause-output : goal.returns-clause-output
returns-clause-output c =
    ids_into (λ ids. record { key = ids.first; value = ids.second; form = tt })
    (λ i. record { key = c.new.ensures.key i; value = c.new.ensures.value i; form = tt })
    c.in_ok-ids.ensures.output
