use Rattle.scale_info_bytes.proofs.Errors.{passed_malformed}
use Rattle.scale_info_bytes.proofs.Steps.{no_prefix_second, prefix_pair}
use Rattle.scale_info_description_codec.proofs.tuple.Tuple2DecodePart.decode_part.Goals as goal

pub returns-in_err-second-clause-malformed : goal.returns-in_err-second-clause-malformed
returns-in_err-second-clause-malformed g c =
    passed_malformed c.from_residual-in_err-second.result c.in_err-second.field-0.0
    c.from_residual-in_err-second.ensures.1
    (λ n.
    no_prefix_second g.A.Part.law c.in_ok-first.ensures.ok n)
    c.in_err-second.ensures.malformed

pub returns-clause-ok : goal.returns-clause-ok
returns-clause-ok g c = prefix_pair c.in_ok-first.ensures.ok c.in_ok-second.ensures.ok
