use Rattle.scale_info_grammar.specs.Ty.{map_parts}
use Rattle.scale_info_bytes.proofs.Errors.{passed_malformed}
use Rattle.scale_info_bytes.proofs.Steps.{no_prefix_through}
use Rattle.scale_info_description_codec.proofs.ty.TypeDefMapDecodePart.decode_part.Goals as goal

pub returns-in_err-key-clause-malformed : goal.returns-in_err-key-clause-malformed
returns-in_err-key-clause-malformed g c =
    passed_malformed c.from_residual.result c.in_err-key.field-0.0 c.from_residual.ensures.1
    (λ n. no_prefix_through map_parts n) c.in_err-key.ensures.malformed
