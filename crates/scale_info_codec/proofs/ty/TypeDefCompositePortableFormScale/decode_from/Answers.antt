use Rattle.std.proofs.Common.{subst}
use Rattle.scale_info_bytes.proofs.Results.{ok_on}
use Rattle.scale_info_bytes.specs.Encodings.{HasPrefix}
use Rattle.scale_info_codec.proofs.Own.{own_fields}
use Rattle.scale_info_grammar.specs.Ty.{EncodesComposite}
use Rattle.scale_info_codec.proofs.ty.TypeDefCompositePortableFormScale.decode_from.Goals as goal

pub returns-clause-ok : goal.returns-clause-ok
returns-clause-ok c =
    ok_on c.decode_part.result
    (λ found.
    subst (λ fields. HasPrefix (EncodesComposite (record { fields = fields })) c.args.input.now found.1.now)
    (own_fields found.0.fields))
    c.decode_part.ensures.ok
