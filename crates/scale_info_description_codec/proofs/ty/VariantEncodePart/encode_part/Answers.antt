use Rattle.scale_info_bytes.proofs.Errors.{passed_too_long}
use Rattle.scale_info_bytes.proofs.Steps.{appends_pair, no_first_part, no_second_part}
use Rattle.scale_info_description_codec.proofs.Sequences.{before, on_err, on_ok, too_long_in}
use Rattle.scale_info_description_codec.proofs.ty.VariantEncodePart.encode_part.Goals as goal

pub returns-in_err-encode_part-clause-too_long :
    goal.returns-in_err-encode_part-clause-too_long
returns-in_err-encode_part-clause-too_long g c =
    passed_too_long c.from_residual.result c.in_err-encode_part.field-0.0
    c.from_residual.ensures.1 (λ n. no_first_part n)
    c.in_err-encode_part.ensures.too_long

pub returns-in_err-encode_part-2-clause-too_long :
    goal.returns-in_err-encode_part-2-clause-too_long
returns-in_err-encode_part-2-clause-too_long g c =
    passed_too_long c.from_residual-in_err-encode_part-2.result c.in_err-encode_part-2.field-0.0
    c.from_residual-in_err-encode_part-2.ensures.1 (λ n. no_second_part (no_first_part n))
    c.in_err-encode_part-2.ensures.too_long

pub returns-in_err-encode_part-3-clause-too_long :
    goal.returns-in_err-encode_part-3-clause-too_long
returns-in_err-encode_part-3-clause-too_long g c =
    passed_too_long c.from_residual-in_err-encode_part-3.result c.in_err-encode_part-3.field-0.0
    c.from_residual-in_err-encode_part-3.ensures.1 (λ n. no_second_part (no_second_part (no_first_part n)))
    c.in_err-encode_part-3.ensures.too_long

pub returns-clause-ok : goal.returns-clause-ok
returns-clause-ok g c =
    on_ok c.encode_part-4.result
    (λ d. appends_pair c.in_ok-encode_part.ensures.ok (appends_pair c.in_ok-encode_part-2.ensures.ok (appends_pair c.in_ok-encode_part-3.ensures.ok d)))
    c.encode_part-4.ensures.ok

pub returns-clause-err : goal.returns-clause-err
returns-clause-err g c =
    on_err c.encode_part-4.result
    (λ d. before c.in_ok-encode_part.ensures.ok (before c.in_ok-encode_part-2.ensures.ok (before c.in_ok-encode_part-3.ensures.ok d)))
    c.encode_part-4.ensures.err

pub returns-clause-too_long : goal.returns-clause-too_long
returns-clause-too_long g c =
    too_long_in c.encode_part-4.result (λ n. no_second_part (no_second_part (no_second_part n)))
    c.encode_part-4.ensures.too_long
