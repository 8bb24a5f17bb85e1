use Rattle.std.proofs.Common.{refl}
use Rattle.scale_info_bytes.proofs.Steps.{no_prefix_through}
use Rattle.scale_info_grammar.specs.Ty.{map_parts}
use Rattle.scale_info_grammar.specs.TyLaws.{map_of}
use Rattle.scale_info_json_bytes.proofs.Objects.{rows_into}
use Rattle.scale_info_bytes.proofs.Results.{malformed_in, ok_on}
use Rattle.scale_info_json_bytes.proofs.ty.TypeDefMapPortableFormTranscodeMembers.transcode_members.Goals as goal

pub returns : goal.returns
returns c = let two = c.transcode_two in record {
  ok = ok_on two.result (λ rest p. rows_into map_of (λ v x s. s) (λ v. refl) p) two.ensures.ok;
  malformed = malformed_in two.result (λ n. no_prefix_through map_parts n) two.ensures.malformed;
}
