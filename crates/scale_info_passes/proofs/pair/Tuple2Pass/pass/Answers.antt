use Rattle.scale_info_bytes.proofs.Steps.{no_prefix_first, no_prefix_second}
use Rattle.scale_info_passes.proofs.Passes.{visited_pair}
use Rattle.scale_info_bytes.proofs.Options.{some_on, none_on, none_is}
use Rattle.scale_info_passes.proofs.pair.Tuple2Pass.pass.Goals as goal

pub returns-in_err-rest-clause-none : goal.returns-in_err-rest-clause-none
returns-in_err-rest-clause-none g c =
    none_is c.from_residual.result (no_prefix_first c.in_err-rest.ensures.none)

pub returns-clause-some : goal.returns-clause-some
returns-clause-some g c =
    some_on c.pass-2.result
    (λ rest p. visited_pair g.met.V.Visitor.visited_append c.in_ok-rest.ensures.some p) c.pass-2.ensures.some

pub returns-clause-none : goal.returns-clause-none
returns-clause-none g c =
    none_on c.pass-2.result
    (λ n. no_prefix_second g.met.A.Pass.law c.in_ok-rest.ensures.some.by.prefix n) c.pass-2.ensures.none
