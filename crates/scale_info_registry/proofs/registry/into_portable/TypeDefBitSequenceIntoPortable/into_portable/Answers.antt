use Rattle.scale_info_registry.proofs.Conversions.{ids_into}
use Rattle.scale_info_registry.proofs.registry.into_portable.TypeDefBitSequenceIntoPortable.into_portable.Goals as goal

pub returns-clause-output : goal.returns-clause-output
returns-clause-output c =
    ids_into (λ ids. record { bit_store_type = ids.first; bit_order_type = ids.second; form = tt })
    (λ i. record { bit_store_type = c.new_portable.ensures.store i; bit_order_type = c.new_portable.ensures.order i; form = tt })
    c.in_ok-ids.ensures.output
