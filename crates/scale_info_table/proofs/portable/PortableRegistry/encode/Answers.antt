use Rattle.std.proofs.Common.{Result, Ok, Err}
use Rattle.std.specs.Prelude.{IfErr}
use Rattle.scale_info_bytes.specs.declared.error.EncodeError.{EncodeError}
use Rattle.scale_info_bytes.specs.Encodings.{IfTooLong}
use Rattle.scale_info_bytes.proofs.Errors.{too_long_on}
use Rattle.scale_info_grammar.proofs.Limits.{has_entries}
use Rattle.scale_info_table.proofs.portable.PortableRegistry.encode.Goals as goal

weaken :
    {X P Q : Type 0} (r : Result X EncodeError)
    → (P → Q) → IfErr r (IfTooLong P) → IfErr r (IfTooLong Q)
weaken (Ok x) f told = tt
weaken (Err e) f told = too_long_on e f told

pub returns-clause-past_limits : goal.returns-clause-past_limits
returns-clause-past_limits c =
    weaken c.encode_to.result
    (λ no within. let entries = has_entries c.args.self.now.types within in no.none entries.bytes entries.encodes)
    c.encode_to.ensures.too_long
