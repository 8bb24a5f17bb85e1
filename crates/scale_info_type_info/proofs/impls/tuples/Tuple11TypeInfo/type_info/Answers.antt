use Rattle.scale_info_type_info.proofs.impls.tuples.Tuple11TypeInfo.type_info.Goals as goal

pub returns-clause-ok : goal.returns-clause-ok
returns-clause-ok g c = c.tuple_of.ensures.ok _ (c.with_1.ensures _ (c.with_2-types.ensures _ (c.with_8-types.ensures _ c.no_types.ensures)))
