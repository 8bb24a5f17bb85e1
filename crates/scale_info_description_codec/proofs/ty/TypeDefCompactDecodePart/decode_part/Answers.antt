use Rattle.scale_info_bytes.proofs.Errors.{passed_malformed}
use Rattle.scale_info_bytes.proofs.Steps.{no_prefix_through}
use Rattle.scale_info_description_codec.proofs.ty.TypeDefCompactDecodePart.decode_part.Goals as goal

pub returns-in_err-type_param-clause-malformed : goal.returns-in_err-type_param-clause-malformed
returns-in_err-type_param-clause-malformed g c =
    passed_malformed c.from_residual.result c.in_err-type_param.field-0.0 c.from_residual.ensures.1
    (λ n. no_prefix_through (λ v. v.type_param) n) c.in_err-type_param.ensures.malformed
