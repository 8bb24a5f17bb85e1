use Rattle.scale_info_bytes.proofs.Errors.{passed_too_long}
use Rattle.scale_info_bytes.proofs.Steps.{appends_pair, no_first_part}
use Rattle.scale_info_description_codec.proofs.Sequences.{on_ok}
use Rattle.scale_info_description_codec.proofs.ty.TypeParameterEncodePart.encode_part.Goals as goal

pub returns-in_err-encode_part-clause-too_long :
    goal.returns-in_err-encode_part-clause-too_long
returns-in_err-encode_part-clause-too_long g c =
    passed_too_long c.from_residual.result c.in_err-encode_part.field-0.0
    c.from_residual.ensures.1 (λ n. no_first_part n)
    c.in_err-encode_part.ensures.too_long

pub returns-clause-ok : goal.returns-clause-ok
returns-clause-ok g c =
    on_ok c.encode_part-2.result
    (λ d. appends_pair c.in_ok-encode_part.ensures.ok d)
    c.encode_part-2.ensures.ok
