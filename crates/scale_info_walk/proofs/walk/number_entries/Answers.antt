use Rattle.scale_info_walk.proofs.walk.number_entries.Goals as goal

pub returns-clause-cause : goal.returns-clause-cause
returns-clause-cause c = c.number_references.ensures.cause
