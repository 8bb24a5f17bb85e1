use Rattle.scale_info_grammar.specs.Ty.{variant_parts}
use Rattle.scale_info_bytes.proofs.Errors.{passed_malformed}
use Rattle.scale_info_bytes.proofs.Steps.{no_prefix_through}
use Rattle.scale_info_description_codec.proofs.ty.VariantDecodePart.decode_part.Goals as goal

pub returns-in_err-parts-clause-malformed : goal.returns-in_err-parts-clause-malformed
returns-in_err-parts-clause-malformed g c =
    passed_malformed c.from_residual.result c.in_err-parts.field-0.0 c.from_residual.ensures.1
    (λ n. no_prefix_through variant_parts n) c.in_err-parts.ensures.malformed
