use Rattle.std.proofs.Common.{arith}
use Rattle.scale_info_bytes.proofs.Index.{begins, no_prefix_some}
use Rattle.scale_info_bytes.proofs.Options.{some_on, none_on}
use Rattle.scale_info_json_bytes.proofs.Skips.{rest_of_some}
use Rattle.scale_info_json_bytes.proofs.skip.OptionSkip.skip.Goals as goal

pub returns-in-1-clause-some : goal.returns-in-1-clause-some
returns-in-1-clause-some g c =
    some_on c.skip.result
    (λ rest p. rest_of_some (begins 1 c.args.input.now c.in-1.len_at_least (omega arith)) p)
    c.skip.ensures.some

pub returns-in-1-clause-none : goal.returns-in-1-clause-none
returns-in-1-clause-none g c =
    none_on c.skip.result
    (λ n. no_prefix_some (begins 1 c.args.input.now c.in-1.len_at_least (omega arith)) n)
    c.skip.ensures.none
