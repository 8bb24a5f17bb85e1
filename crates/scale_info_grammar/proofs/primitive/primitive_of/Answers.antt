use Rattle.std.proofs.Common.{rules}
use Rattle.scale_info_grammar.proofs.primitive.primitive_of.Goals as goal

pub returns-in-14-clause-none : goal.returns-in-14-clause-none
returns-in-14-clause-none c = search rules
