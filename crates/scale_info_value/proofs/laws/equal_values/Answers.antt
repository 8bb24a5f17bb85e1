use Rattle.std.proofs.Common.{IsTrue, subst}
use Rattle.scale_info_value.specs.contracts.value.ValuePartialEq.TheImpl.{ghosts}
use Rattle.scale_info_value.proofs.Equal.{one_value}
use Rattle.scale_info_value.proofs.laws.equal_values.Goals as goal

pub returns : goal.returns
returns c = λ a b. (one_value a b, λ p. subst (λ e. IsTrue (ghosts.eq a e)) p (c.equals_itself.ensures a))
