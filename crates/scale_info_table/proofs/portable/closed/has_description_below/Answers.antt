use Rattle.scale_info_table.proofs.Below.{described_by_definition, described_by_parameters}
use Rattle.scale_info_table.proofs.portable.closed.has_description_below.Goals as goal

pub returns-then-has_parameters_below : goal.returns-then-has_parameters_below
returns-then-has_parameters_below c =
    described_by_definition _ c.args.ty.now _ _ _ c.deref.ensures c.if-has_parameters_below.true c.has_parameters_below.ensures
    c.has_definition_below.ensures

pub returns-else-has_parameters_below : goal.returns-else-has_parameters_below
returns-else-has_parameters_below c =
    described_by_parameters _ c.args.ty.now _ _ c.deref.ensures c.if-has_parameters_below.false c.has_parameters_below.ensures
