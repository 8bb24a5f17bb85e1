use Rattle.scale_info_value_visit.proofs.list.primitives.Goals as goal

pub returns-in-Bool : goal.returns-in-Bool
returns-in-Bool g c = rw c.in-Bool.is c.truths.ensures
