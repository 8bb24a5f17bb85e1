use Rattle.std.proofs.Common.{arith, refl}
use Rattle.scale_info_bytes.proofs.Errors.{passed_malformed}
use Rattle.scale_info_bytes.proofs.Index.{begins}
use Rattle.scale_info_grammar.proofs.Definitions.{prefix_definition, no_prefix_definition}
use Rattle.scale_info_description_codec.proofs.ty.TypeDefDecodePart.decode_part.Goals as goal

pub returns-in_err-def-in-len1-up-clause-malformed :
    goal.returns-in_err-def-in-len1-up-clause-malformed
returns-in_err-def-in-len1-up-clause-malformed g c =
    passed_malformed c.from_residual.result c.in_err-def-in-len1-up.field-0.0
    c.from_residual.ensures.1
    (λ n. no_prefix_definition _ (begins _ c.args.input.now (omega arith) refl) n)
    c.in_err-def-in-len1-up.ensures.malformed

pub returns-in_ok-def-in-len1-up-clause-ok : goal.returns-in_ok-def-in-len1-up-clause-ok
returns-in_ok-def-in-len1-up-clause-ok g c =
    prefix_definition _ (begins _ c.args.input.now (omega arith) refl)
    c.in_ok-def-in-len1-up.ensures.ok
