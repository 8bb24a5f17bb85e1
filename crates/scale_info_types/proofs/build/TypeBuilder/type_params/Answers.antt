use Rattle.scale_info_types.proofs.build.TypeBuilder.type_params.Goals as goal

pub returns-clause-type_params : goal.returns-clause-type_params
returns-clause-type_params g c = c.from.ensures
