use Rattle.scale_info_value.specs.Readings.{reading}
use Rattle.scale_info_value_visit.specs.Events.{events}
use Rattle.scale_info_value_visit.proofs.Outcomes.{read_agrees, value_shown, error_shown}
use Rattle.scale_info_value_visit.proofs.visit.visit_value.Goals as goal

pub returns-clause-ok : goal.returns-clause-ok
returns-clause-ok g c =
    let table = g.T.Definitions.table c.args.table.now in
    value_shown (events table c.args.id) (reading table c.args.id 1 c.args.input.now)
    (read_agrees table c.args.id c.args.input.now) c.value_within.ensures

pub returns-clause-err : goal.returns-clause-err
returns-clause-err g c =
    let table = g.T.Definitions.table c.args.table.now in
    error_shown (events table c.args.id) (reading table c.args.id 1 c.args.input.now)
    (read_agrees table c.args.id c.args.input.now) c.value_within.ensures
