use Rattle.scale_info.proofs.Errors.{passed_malformed}
use Rattle.scale_info.proofs.Steps.{no_prefix_through}
use Rattle.example_callers.specs.Temperatures.{reading_parts}
use Rattle.example_callers.proofs.temperature.ReadingScale.decode_from.Goals as goal

pub returns-in_err-seconds-clause-malformed : goal.returns-in_err-seconds-clause-malformed
returns-in_err-seconds-clause-malformed c =
    passed_malformed c.from_residual.result c.in_err-seconds.field-0.0 c.from_residual.ensures.1
    (λ none. no_prefix_through reading_parts none) c.in_err-seconds.ensures.malformed
