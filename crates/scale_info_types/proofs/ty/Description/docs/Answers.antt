use Rattle.scale_info_types.proofs.ty.Description.docs.Goals as goal

pub returns : goal.returns
returns g c = c.as_slice.ensures
