use Rattle.scale_info_bytes.proofs.Errors.{passed_malformed}
use Rattle.scale_info_bytes.specs.PartLaws.{option_law}
use Rattle.scale_info_bytes.specs.Parts.{EncodesList, EncodesOption}
use Rattle.scale_info_bytes.specs.StringLaws.{text_law}
use Rattle.scale_info_bytes.specs.Strings.{EncodesText}
use Rattle.scale_info_grammar.specs.Ty.{EncodesId, field_parts}
use Rattle.scale_info_grammar.specs.TyLaws.{id_law}
use Rattle.scale_info_json_bytes.proofs.Objects.{four_rows}
use Rattle.scale_info_json_bytes.proofs.Parts.{four_parts, no_second, no_third, no_fourth}
use Rattle.scale_info_json_bytes.proofs.Skips.{only_rest}
use Rattle.scale_info_types.specs.Portable as portable
use Rattle.scale_info_types.specs.Portable.{Text}
use Rattle.std.specs.Prelude.{Option, option_map}
use Rattle.scale_info_json_bytes.proofs.ty.FieldPortableFormTranscodeMembers.transcode_members.Goals as goal

pub returns-in_err-ty-clause-malformed : goal.returns-in_err-ty-clause-malformed
returns-in_err-ty-clause-malformed c =
    passed_malformed _ _ c.from_residual-in_err-ty.ensures.1
    (no_second field_parts (only_rest (option_law text_law) c.in_ok-name.ensures.ok))
    c.in_err-ty.ensures.malformed

pub returns-in_err-type_name-clause-malformed : goal.returns-in_err-type_name-clause-malformed
returns-in_err-type_name-clause-malformed c =
    passed_malformed _ _ c.from_residual-in_err-type_name.ensures.1
    (no_third field_parts (only_rest (option_law text_law) c.in_ok-name.ensures.ok)
    (only_rest id_law c.in_ok-ty.ensures.ok))
    c.in_err-type_name.ensures.malformed

pub returns-in_err-rest-clause-malformed : goal.returns-in_err-rest-clause-malformed
returns-in_err-rest-clause-malformed c =
    passed_malformed _ _ c.from_residual-in_err-rest.ensures.1
    (no_fourth field_parts (only_rest (option_law text_law) c.in_ok-name.ensures.ok)
    (only_rest id_law c.in_ok-ty.ensures.ok)
    (only_rest (option_law text_law) c.in_ok-type_name.ensures.ok))
    c.in_err-rest.ensures.malformed

pub returns : goal.returns
returns c =
    let docs = c.in_ok-rest.ensures.ok in
    let name : Option Text = option_map (λ t. t.now) c.in_ok-name.name in
    let type_name : Option Text = option_map (λ t. t.now) c.in_ok-type_name.type_name in
    let field : portable.Field =
    record { name = name; ty = c.in_ok-ty.ty; type_name = type_name; docs = docs.value } in
    let read =
    four_parts (EncodesOption EncodesText) EncodesId (EncodesOption EncodesText)
    (EncodesList EncodesText) (field_parts field) _ _ _ _ _ c.in_ok-name.ensures.ok
    c.in_ok-ty.ensures.ok c.in_ok-type_name.ensures.ok docs.read in
    let rows =
    four_rows docs.appends c.in_ok-write_optional_str.ensures
    c.in_ok-write_id.ensures c.in_ok-write_optional_str-2.ensures in
    record { ok = record { value = field; read = read; append = rows }; malformed = tt }
