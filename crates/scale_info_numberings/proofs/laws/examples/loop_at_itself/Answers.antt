use Rattle.scale_info_numberings.proofs.Loops.{self_once, self_twice, nothing_numbered}
use Rattle.scale_info_numberings.proofs.Loops.{self_unreached}
use Rattle.scale_info_numberings.proofs.laws.examples.loop_at_itself.Goals as goal

pub returns-clause-once : goal.returns-clause-once
returns-clause-once c = self_once

pub returns-clause-twice_a_root : goal.returns-clause-twice_a_root
returns-clause-twice_a_root c = self_twice

pub returns-clause-no_roots : goal.returns-clause-no_roots
returns-clause-no_roots c = nothing_numbered

pub returns-clause-unreached : goal.returns-clause-unreached
returns-clause-unreached c = self_unreached
