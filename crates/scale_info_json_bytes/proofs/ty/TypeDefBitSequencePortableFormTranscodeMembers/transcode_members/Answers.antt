use Rattle.scale_info_bytes.proofs.Errors.{passed_malformed}
use Rattle.scale_info_bytes.proofs.Steps.{no_prefix_second, no_prefix_through}
use Rattle.scale_info_bytes.proofs.Steps.{prefix_pair}
use Rattle.scale_info_grammar.specs.Ty.{EncodesId, bit_sequence_parts}
use Rattle.scale_info_grammar.specs.TyLaws.{id_law}
use Rattle.scale_info_json_bytes.proofs.Objects.{two_rows}
use Rattle.scale_info_types.specs.Portable as portable
use Rattle.scale_info_json_bytes.proofs.ty.TypeDefBitSequencePortableFormTranscodeMembers.transcode_members.Goals as goal

pub returns-in_err-rest-clause-malformed : goal.returns-in_err-rest-clause-malformed
returns-in_err-rest-clause-malformed c =
    passed_malformed c.from_residual-in_err-rest.result c.in_err-rest.field-0.0
    c.from_residual-in_err-rest.ensures.1
    (λ n.
    no_prefix_through bit_sequence_parts (no_prefix_second id_law c.in_ok-store.ensures.ok n))
    c.in_err-rest.ensures.malformed

pub returns : goal.returns
returns c =
    let order = c.in_ok-rest.ensures.ok in
    let bits : portable.TypeDefBitSequence =
    record { bit_store_type = c.in_ok-store.store; bit_order_type = order.value; form = tt } in
    let read =
    prefix_pair {S = EncodesId} {R = EncodesId} {v = bit_sequence_parts bits}
    c.in_ok-store.ensures.ok order.read in
    let rows = two_rows order.appends c.in_ok-write_id.ensures in
    record { ok = record { value = bits; read = read; append = rows }; malformed = tt }
