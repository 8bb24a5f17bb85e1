use Rattle.scale_info_bytes.proofs.Steps.{appends_pair, no_second_part}
use Rattle.scale_info_description_codec.proofs.Sequences.{on_ok, too_long_in}
use Rattle.scale_info_description_codec.proofs.ty.FieldEncodePart.encode_part.Goals as goal

pub returns-clause-ok : goal.returns-clause-ok
returns-clause-ok g c =
    on_ok c.encode_part-4.result
    (λ d. appends_pair c.in_ok-encode_part.ensures.ok (appends_pair c.in_ok-encode_part-2.ensures.ok (appends_pair c.in_ok-encode_part-3.ensures.ok d)))
    c.encode_part-4.ensures.ok

pub returns-clause-too_long : goal.returns-clause-too_long
returns-clause-too_long g c =
    too_long_in c.encode_part-4.result (λ n. no_second_part (no_second_part (no_second_part n)))
    c.encode_part-4.ensures.too_long
