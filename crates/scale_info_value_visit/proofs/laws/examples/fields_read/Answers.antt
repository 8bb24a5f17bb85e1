use Rattle.std.proofs.Common.{refl}
use Rattle.scale_info_value_visit.specs.Reads.{value_read}
use Rattle.scale_info_value_visit.proofs.Events.{unsigned_events}
use Rattle.scale_info_value_visit.proofs.laws.examples.fields_read.Goals as goal

pub returns-clause-second : goal.returns-clause-second
unfolding value_read
returns-clause-second c = simp unsigned_events

pub returns-clause-none : goal.returns-clause-none
unfolding value_read
returns-clause-none c = refl
