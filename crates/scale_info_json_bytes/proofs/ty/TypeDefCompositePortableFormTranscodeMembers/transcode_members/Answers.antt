use Rattle.std.proofs.Common.{refl}
use Rattle.scale_info_bytes.proofs.Steps.{no_prefix_through}
use Rattle.scale_info_grammar.specs.TyLaws.{composite_of}
use Rattle.scale_info_json_bytes.proofs.Objects.{row_alone}
use Rattle.scale_info_bytes.proofs.Results.{malformed_in, ok_on}
use Rattle.scale_info_json_bytes.proofs.ty.TypeDefCompositePortableFormTranscodeMembers.transcode_members.Goals as goal

pub returns : goal.returns
returns c = let list = c.transcode_unless_empty in record {
  ok = ok_on list.result (λ rest p. row_alone composite_of (λ v x s. s) (λ v. refl) p) list.ensures.ok;
  malformed = malformed_in list.result (λ n. no_prefix_through (λ v. v.fields) n) list.ensures.malformed;
}
