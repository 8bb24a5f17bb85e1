use Rattle.std.proofs.Common.{refl}
use Rattle.scale_info_value_visit.specs.Reads.{value_read}
use Rattle.scale_info_value_visit.proofs.Events.{unsigned_events}
use Rattle.scale_info_value_visit.proofs.laws.examples.lists_read.Goals as goal

pub returns-clause-two : goal.returns-clause-two
unfolding value_read
returns-clause-two c = simp unsigned_events

pub returns-clause-short : goal.returns-clause-short
unfolding value_read
returns-clause-short c = simp unsigned_events

pub returns-clause-outside : goal.returns-clause-outside
unfolding value_read
returns-clause-outside c = refl

pub returns-clause-missing : goal.returns-clause-missing
unfolding value_read
returns-clause-missing c = refl

pub returns-clause-one_missing : goal.returns-clause-one_missing
unfolding value_read
returns-clause-one_missing c = refl
