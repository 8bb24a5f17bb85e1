use Rattle.scale_info_collections.proofs.items.ItemsFromIterator.from_iter.Goals as goal

pub returns : goal.returns
returns g c =
    let ran = c.in_ok-from_iter.ensures.ran in
    record { ran = (ran.0, ran.1, ran.2, ran.3, ran.4.0) }
