use Rattle.scale_info_value_visit.proofs.skip.skip_value.Goals as goal

pub returns-in-Ok-clause-ok : goal.returns-in-Ok-clause-ok
returns-in-Ok-clause-ok g c = record { value = c.in-Ok.ensures.ok.value; read = c.in-Ok.ensures.ok.read }
