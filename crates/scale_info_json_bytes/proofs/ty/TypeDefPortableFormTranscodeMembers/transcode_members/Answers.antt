use Rattle.std.proofs.Common.{arith, refl}
use Rattle.scale_info_bytes.proofs.Index.{begins}
use Rattle.scale_info_grammar.proofs.Definitions.{prefix_definition, no_prefix_definition}
use Rattle.scale_info_json_bytes.proofs.Objects.{one_row}
use Rattle.scale_info_bytes.proofs.Results.{malformed_in, ok_on}
use Rattle.scale_info_json_bytes.proofs.ty.TypeDefPortableFormTranscodeMembers.transcode_members.Goals as goal

pub returns-in-len1-up-clause-ok : goal.returns-in-len1-up-clause-ok
returns-in-len1-up-clause-ok c =
    ok_on c.transcode_parts.result
    (λ rest p. record {
      value = p.value;
      read = prefix_definition _ (begins _ c.args.input.now (omega arith) refl) p.read;
      append = one_row p.appends;
    })
    c.transcode_parts.ensures.ok

pub returns-in-len1-up-clause-malformed : goal.returns-in-len1-up-clause-malformed
returns-in-len1-up-clause-malformed c =
    malformed_in c.transcode_parts.result
    (λ n. no_prefix_definition _ (begins _ c.args.input.now (omega arith) refl) n)
    c.transcode_parts.ensures.malformed
