use Rattle.scale_info_bytes.proofs.Errors.{passed_malformed}
use Rattle.scale_info_bytes.proofs.Steps.{no_prefix_through}
use Rattle.scale_info_description_codec.proofs.ty.TypeDefVariantDecodePart.decode_part.Goals as goal

pub returns-in_err-variants-clause-malformed : goal.returns-in_err-variants-clause-malformed
returns-in_err-variants-clause-malformed g c =
    passed_malformed c.from_residual.result c.in_err-variants.field-0.0 c.from_residual.ensures.1
    (λ n. no_prefix_through (λ v. v.variants) n) c.in_err-variants.ensures.malformed
