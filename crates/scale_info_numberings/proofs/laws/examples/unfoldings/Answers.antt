use Rattle.scale_info_numberings.proofs.Loops.{unfold_alike, no_match_of_loops}
use Rattle.scale_info_numberings.proofs.laws.examples.unfoldings.Goals as goal

pub returns-clause-loops_unfold_alike : goal.returns-clause-loops_unfold_alike
returns-clause-loops_unfold_alike c = unfold_alike

pub returns-clause-loops_do_not_match : goal.returns-clause-loops_do_not_match
returns-clause-loops_do_not_match c = no_match_of_loops
