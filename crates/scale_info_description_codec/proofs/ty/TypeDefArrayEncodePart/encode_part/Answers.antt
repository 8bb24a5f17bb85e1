use Rattle.scale_info_bytes.proofs.Steps.{appends_pair}
use Rattle.scale_info_description_codec.proofs.Sequences.{on_ok}
use Rattle.scale_info_description_codec.proofs.ty.TypeDefArrayEncodePart.encode_part.Goals as goal

pub returns-clause-ok : goal.returns-clause-ok
returns-clause-ok g c =
    on_ok c.encode_part-2.result
    (λ d. appends_pair c.in_ok-encode_part.ensures.ok d)
    c.encode_part-2.ensures.ok
