use Rattle.scale_info_bytes.proofs.Steps.{no_prefix_through}
use Rattle.scale_info_bytes.proofs.Options.{none_is}
use Rattle.scale_info_json_bytes.proofs.skip.UntrackedSymbolTypeIdSkip.skip.Goals as goal

pub returns-in_err-rest-clause-none : goal.returns-in_err-rest-clause-none
returns-in_err-rest-clause-none c =
    none_is c.from_residual.result (no_prefix_through (λ v. v.id) c.in_err-rest.ensures.none)
