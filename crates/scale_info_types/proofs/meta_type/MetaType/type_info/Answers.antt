use Rattle.scale_info_types.proofs.meta_type.MetaType.type_info.Goals as goal

pub returns : goal.returns
returns g c = c.get.ensures
