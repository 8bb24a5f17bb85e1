use Rattle.scale_info_value.specs.Readings.{reading}
use Rattle.scale_info_value_visit.specs.Events.{events}
use Rattle.scale_info_value_visit.specs.Reads.{read_of}
use Rattle.scale_info_value_visit.proofs.Outcomes.{read_agrees, events_of_value, rest_of_value, end_of_failure, read_through, read_short}
use Rattle.scale_info_value_visit.proofs.laws.read_is_decoded.Goals as goal

pub returns-clause-events : goal.returns-clause-events
returns-clause-events c = λ table id input value rest.
    events_of_value (events table id) (reading table id 1 input) (read_of table id input) value rest (read_agrees table id input)

pub returns-clause-rest : goal.returns-clause-rest
returns-clause-rest c = λ table id input value rest.
    rest_of_value (events table id) (reading table id 1 input) (read_of table id input) value rest (read_agrees table id input)

pub returns-clause-failure : goal.returns-clause-failure
returns-clause-failure c = λ table id input why.
    end_of_failure (events table id) (reading table id 1 input) (read_of table id input) why (read_agrees table id input)

pub returns-clause-value : goal.returns-clause-value
returns-clause-value c = λ table id input rest e.
    let p = read_through (events table id) (reading table id 1 input) (read_of table id input) rest (read_agrees table id input) e in
    record { value = p.0; read = p.1 }

pub returns-clause-none : goal.returns-clause-none
returns-clause-none c = λ table id input why.
    read_short (events table id) (reading table id 1 input) (read_of table id input) why (read_agrees table id input)
