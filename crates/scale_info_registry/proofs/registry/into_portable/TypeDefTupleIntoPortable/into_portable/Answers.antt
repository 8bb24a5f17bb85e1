use Rattle.std.proofs.Common.{ap, ◌∙◌}
use Rattle.scale_info_types.specs.Portable as portable
use Rattle.scale_info_registry.proofs.registry.into_portable.TypeDefTupleIntoPortable.into_portable.Goals as goal

pub returns-clause-output : goal.returns-clause-output
returns-clause-output c =
    let h = c.in_ok-ids.ensures.output in
    let part : _ → portable.TypeDefTuple = λ ids. record { fields = ids; form = tt } in
    (h.0, h.1, (h.2.0, ap part (c.from.ensures ∙ h.2.1), h.2.2))
