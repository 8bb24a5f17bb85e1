use Rattle.std.proofs.Common.{ℕ, List}
use Rattle.scale_info_bytes.proofs.Errors.{passed_malformed}
use Rattle.scale_info_bytes.proofs.Steps.{no_prefix_through}
use Rattle.scale_info_bytes.specs.Parts.{EncodesList}
use Rattle.scale_info_bytes.specs.Strings.{EncodesText}
use Rattle.scale_info_grammar.specs.Ty.{EncodesParameter, EncodesPath}
use Rattle.scale_info_grammar.specs.Ty.{EncodesTypeDef, description_parts}
use Rattle.scale_info_grammar.specs.TyLaws.{path_of, type_def_law}
use Rattle.scale_info_json_bytes.proofs.Objects.{four_rows}
use Rattle.scale_info_json_bytes.proofs.Parts.{four_parts, no_first, no_second}
use Rattle.scale_info_json_bytes.proofs.Parts.{no_third, no_fourth}
use Rattle.scale_info_json_bytes.proofs.Skips.{only_rest, read_again, rest_through}
use Rattle.scale_info_json_bytes.specs.Skips.{IsOnlyRest}
use Rattle.scale_info_types.specs.Portable as portable
use Rattle.scale_info_json_bytes.proofs.ty.DescriptionPortableFormTranscodeMembers.transcode_members.Goals as goal

-- the rest after the segments is that after the path
path_rest : {a b : List ℕ} → IsOnlyRest (EncodesList EncodesText) a b → IsOnlyRest EncodesPath a b
path_rest p = rest_through (λ v. v.segments) p

pub returns-in_err-params-clause-malformed : goal.returns-in_err-params-clause-malformed
returns-in_err-params-clause-malformed c =
    passed_malformed _ _ c.from_residual.ensures.1
    (λ n. no_first description_parts (no_prefix_through (λ v. v.segments) n))
    c.in_err-params.ensures.malformed

pub returns-in_err-def-clause-malformed : goal.returns-in_err-def-clause-malformed
returns-in_err-def-clause-malformed c =
    passed_malformed _ _ c.from_residual-in_err-def.ensures.1
    (no_second description_parts (path_rest c.in_ok-params.ensures.ok))
    c.in_err-def.ensures.malformed

pub returns-in_err-docs-clause-malformed : goal.returns-in_err-docs-clause-malformed
returns-in_err-docs-clause-malformed c =
    passed_malformed _ _ c.from_residual-in_err-docs.ensures.1
    (no_third description_parts (path_rest c.in_ok-params.ensures.ok) c.in_ok-def.ensures.ok)
    c.in_err-docs.ensures.malformed

pub returns-in_err-rest-clause-malformed : goal.returns-in_err-rest-clause-malformed
returns-in_err-rest-clause-malformed c =
    passed_malformed _ _ c.from_residual-in_err-rest.ensures.1
    (no_fourth description_parts (path_rest c.in_ok-params.ensures.ok) c.in_ok-def.ensures.ok
    (only_rest type_def_law c.in_ok-docs.ensures.ok.read))
    c.in_err-rest.ensures.malformed

pub returns-in_err-transcode_unless_empty-clause-malformed :
    goal.returns-in_err-transcode_unless_empty-clause-malformed
returns-in_err-transcode_unless_empty-clause-malformed c =
    passed_malformed _ _ c.from_residual-in_err-transcode_unless_empty.ensures.1
    (no_second description_parts (path_rest c.in_ok-params.ensures.ok))
    c.in_err-transcode_unless_empty.ensures.malformed

pub returns-in_err-transcode_unless_empty-2-clause-malformed :
    goal.returns-in_err-transcode_unless_empty-2-clause-malformed
returns-in_err-transcode_unless_empty-2-clause-malformed c =
    passed_malformed _ _ c.from_residual-in_err-transcode_unless_empty-2.ensures.1
    (λ n. no_first description_parts (no_prefix_through (λ v. v.segments) n))
    c.in_err-transcode_unless_empty-2.ensures.malformed

pub returns : goal.returns
returns c =
    let def = c.in_ok-docs.ensures.ok in
    let docs = c.in_ok-rest.ensures.ok in
    let params = c.in_ok-transcode_unless_empty.ensures.ok in
    let path = c.in_ok-transcode_unless_empty-2.ensures.ok in
    let description : portable.Description =
    record {
      path = path_of path.value;
      type_params = params.value;
      type_def = def.value;
      docs = docs.value;
    } in
    let read =
    four_parts EncodesPath (EncodesList EncodesParameter) EncodesTypeDef (EncodesList EncodesText)
    (description_parts description) _ _ _ _ _
    (read_again path.value _ c.in_ok-params.ensures.ok path.read)
    (read_again params.value _ c.in_ok-def.ensures.ok params.read)
    def.read docs.read in
    let rows = four_rows def.appends docs.appends params.appends path.appends in
    record { ok = record { value = description; read = read; append = rows }; malformed = tt }
