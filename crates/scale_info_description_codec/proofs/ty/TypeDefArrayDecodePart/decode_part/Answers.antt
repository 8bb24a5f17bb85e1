use Rattle.scale_info_grammar.specs.Ty.{array_parts}
use Rattle.scale_info_bytes.proofs.Errors.{passed_malformed}
use Rattle.scale_info_bytes.proofs.Steps.{no_prefix_through}
use Rattle.scale_info_description_codec.proofs.ty.TypeDefArrayDecodePart.decode_part.Goals as goal

pub returns-in_err-len-clause-malformed : goal.returns-in_err-len-clause-malformed
returns-in_err-len-clause-malformed g c =
    passed_malformed c.from_residual.result c.in_err-len.field-0.0 c.from_residual.ensures.1
    (λ n. no_prefix_through array_parts n) c.in_err-len.ensures.malformed
