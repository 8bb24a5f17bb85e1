use Rattle.std.proofs.Common.{ap}
use Rattle.scale_info_types.specs.Portable as portable
use Rattle.scale_info_registry.proofs.registry.into_portable.TypeDefSequenceIntoPortable.into_portable.Goals as goal

pub returns-clause-output : goal.returns-clause-output
returns-clause-output c =
    let (ids, places, is) = c.in_ok-id.ensures.output in
    let whole : portable.Id → portable.TypeDefSequence = λ id. record { type_param = id; form = tt } in
    (ids, places, (λ _. c.in_ok-id.id.id, ap whole c.new.ensures, is))
