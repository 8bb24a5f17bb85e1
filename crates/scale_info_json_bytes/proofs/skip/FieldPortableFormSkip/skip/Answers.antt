use Rattle.scale_info_bytes.proofs.Steps.{no_prefix_through}
use Rattle.scale_info_grammar.specs.Ty.{field_parts}
use Rattle.scale_info_bytes.proofs.Options.{some_on, none_on}
use Rattle.scale_info_json_bytes.proofs.Skips.{rest_through}
use Rattle.scale_info_json_bytes.proofs.skip.FieldPortableFormSkip.skip.Goals as goal

pub returns-clause-some : goal.returns-clause-some
returns-clause-some c = some_on c.skip.result (λ rest. rest_through field_parts) c.skip.ensures.some

pub returns-clause-none : goal.returns-clause-none
returns-clause-none c = none_on c.skip.result (no_prefix_through field_parts) c.skip.ensures.none
