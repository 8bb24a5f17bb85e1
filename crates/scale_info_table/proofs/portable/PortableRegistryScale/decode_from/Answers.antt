use Rattle.scale_info_bytes.proofs.Errors.{passed_malformed}
use Rattle.scale_info_bytes.proofs.Steps.{no_prefix_through}
use Rattle.scale_info_table.proofs.portable.PortableRegistryScale.decode_from.Goals as goal

pub returns-in_err-types-clause-malformed : goal.returns-in_err-types-clause-malformed
returns-in_err-types-clause-malformed c =
    passed_malformed c.from_residual.result c.in_err-types.field-0.0 c.from_residual.ensures.1
    (λ n. no_prefix_through (λ v. v.types) n) c.in_err-types.ensures.malformed
