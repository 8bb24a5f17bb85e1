use Rattle.scale_info_registry.proofs.registry.into_portable.TypeDefArrayIntoPortable.into_portable.Goals as goal

pub returns-clause-output : goal.returns-clause-output
returns-clause-output c =
    let (ids, places, is) = c.in_ok-id.ensures.output in (
      ids,
      places,
      (
        λ _. c.in_ok-id.id.id,
        λ i. record { len = c.new.ensures.len i; type_param = c.new.ensures.type_param i; form = tt },
        is,
      ),
    )
