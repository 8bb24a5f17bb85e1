use Rattle.scale_info_type_info.proofs.impls.tuples.UnitTypeInfo.type_info.Goals as goal

pub returns-clause-ok : goal.returns-clause-ok
returns-clause-ok c = c.tuple_of.ensures.ok _ c.no_types.ensures
