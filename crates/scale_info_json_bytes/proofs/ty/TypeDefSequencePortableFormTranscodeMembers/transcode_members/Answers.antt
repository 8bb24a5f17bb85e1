use Rattle.std.proofs.Common.{refl}
use Rattle.scale_info_bytes.proofs.Steps.{no_prefix_through}
use Rattle.scale_info_grammar.specs.TyLaws.{sequence_of}
use Rattle.scale_info_json_bytes.proofs.Objects.{row_alone}
use Rattle.scale_info_bytes.proofs.Results.{malformed_in, ok_on}
use Rattle.scale_info_json_bytes.proofs.ty.TypeDefSequencePortableFormTranscodeMembers.transcode_members.Goals as goal

pub returns : goal.returns
returns c = let member = c.transcode_member in record {
  ok = ok_on member.result (λ rest p. row_alone sequence_of (λ v x s. s) (λ v. refl) p) member.ensures.ok;
  malformed = malformed_in member.result (λ n. no_prefix_through (λ v. v.type_param) n) member.ensures.malformed;
}
