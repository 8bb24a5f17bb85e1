use Rattle.scale_info_types.proofs.Iterators.{gives_all}
use Rattle.scale_info_types.proofs.ty.Description.new.Goals as goal

pub returns-clause-type_params : goal.returns-clause-type_params
returns-clause-type_params g c =
    gives_all g.I.IntoIterator.into_iter_gives g.I.IntoIter.Iterator.next_gives c.args.type_params c.in_ok-from_iter.field-0 c.in_ok-from_iter.ensures.ran
