use Rattle.scale_info_grammar.specs.Ty.{bit_sequence_parts}
use Rattle.scale_info_bytes.proofs.Errors.{passed_malformed}
use Rattle.scale_info_bytes.proofs.Steps.{no_prefix_through}
use Rattle.scale_info_description_codec.proofs.ty.TypeDefBitSequenceDecodePart.decode_part.Goals as goal

pub returns-in_err-store-clause-malformed :
    goal.returns-in_err-store-clause-malformed
returns-in_err-store-clause-malformed g c =
    passed_malformed c.from_residual.result c.in_err-store.field-0.0
    c.from_residual.ensures.1 (λ n. no_prefix_through bit_sequence_parts n)
    c.in_err-store.ensures.malformed
