use Rattle.scale_info_bytes.proofs.Steps.{no_prefix_first}
use Rattle.scale_info_bytes.proofs.Options.{some_on, none_on, none_is}
use Rattle.scale_info_json_bytes.proofs.Skips.{no_second_part, rest_of_pair}
use Rattle.scale_info_json_bytes.proofs.skip.Tuple2Skip.skip.Goals as goal

pub returns-in_err-rest-clause-none : goal.returns-in_err-rest-clause-none
returns-in_err-rest-clause-none g c =
    none_is c.from_residual.result (no_prefix_first c.in_err-rest.ensures.none)

pub returns-clause-some : goal.returns-clause-some
returns-clause-some g c =
    some_on c.skip-2.result (λ rest p. rest_of_pair c.in_ok-rest.ensures.some p)
    c.skip-2.ensures.some

pub returns-clause-none : goal.returns-clause-none
returns-clause-none g c =
    none_on c.skip-2.result (λ n. no_second_part c.in_ok-rest.ensures.some n)
    c.skip-2.ensures.none
