use Rattle.std.proofs.Common.{subst}
use Rattle.scale_info_bytes.proofs.Results.{ok_on}
use Rattle.scale_info_bytes.specs.Encodings.{HasPrefix}
use Rattle.scale_info_codec.proofs.Own.{own_variants}
use Rattle.scale_info_grammar.specs.Ty.{EncodesVariants}
use Rattle.scale_info_codec.proofs.ty.TypeDefVariantPortableFormScale.decode_from.Goals as goal

pub returns-clause-ok : goal.returns-clause-ok
returns-clause-ok c =
    ok_on c.decode_part.result
    (λ found.
    subst (λ variants. HasPrefix (EncodesVariants (record { variants = variants })) c.args.input.now found.1.now)
    (own_variants found.0.variants))
    c.decode_part.ensures.ok
