use Rattle.scale_info_numberings.proofs.FirstOutside.{lies_outside, one_first_outside}
use Rattle.scale_info_numberings.proofs.FirstOutside.{outside_reached}
use Rattle.scale_info_numberings.proofs.laws.first_outside.Goals as goal

pub returns-clause-reached : goal.returns-clause-reached
returns-clause-reached g c = outside_reached

pub returns-clause-outside : goal.returns-clause-outside
returns-clause-outside g c = lies_outside

pub returns-clause-one : goal.returns-clause-one
returns-clause-one g c = one_first_outside
