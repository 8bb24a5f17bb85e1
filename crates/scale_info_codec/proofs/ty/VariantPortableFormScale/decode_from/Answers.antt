use Rattle.std.proofs.Common.{subst}
use Rattle.scale_info_bytes.proofs.Results.{ok_on}
use Rattle.scale_info_bytes.specs.Encodings.{HasPrefix}
use Rattle.scale_info_codec.proofs.Own.{own_variant}
use Rattle.scale_info_grammar.specs.Ty.{EncodesVariant}
use Rattle.scale_info_codec.proofs.ty.VariantPortableFormScale.decode_from.Goals as goal

pub returns-clause-ok : goal.returns-clause-ok
returns-clause-ok c =
    ok_on c.decode_part.result
    (λ found. subst (λ v. HasPrefix (EncodesVariant v) c.args.input.now found.1.now) (own_variant found.0))
    c.decode_part.ensures.ok
