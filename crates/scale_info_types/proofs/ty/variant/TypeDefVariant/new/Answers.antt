use Rattle.scale_info_types.proofs.Iterators.{gives_all}
use Rattle.scale_info_types.proofs.ty.variant.TypeDefVariant.new.Goals as goal

pub returns : goal.returns
returns g c =
    gives_all g.I.IntoIterator.into_iter_gives g.I.IntoIter.Iterator.next_gives c.args.variants c.in_ok-from_iter.field-0 c.in_ok-from_iter.ensures.ran
