use Rattle.scale_info_bytes.proofs.Errors.{passed_malformed}
use Rattle.scale_info_bytes.specs.IntegerLaws.{u8_law}
use Rattle.scale_info_bytes.specs.Integers.{EncodesU8}
use Rattle.scale_info_bytes.specs.Parts.{EncodesList}
use Rattle.scale_info_bytes.specs.StringLaws.{text_law}
use Rattle.scale_info_bytes.specs.Strings.{EncodesText}
use Rattle.scale_info_grammar.specs.Ty.{EncodesField, variant_parts}
use Rattle.scale_info_json_bytes.proofs.Objects.{four_rows}
use Rattle.scale_info_json_bytes.proofs.Parts.{four_parts, no_second}
use Rattle.scale_info_json_bytes.proofs.Parts.{no_third, no_fourth}
use Rattle.scale_info_json_bytes.proofs.Skips.{only_rest, read_again}
use Rattle.scale_info_types.specs.Portable as portable
use Rattle.scale_info_json_bytes.proofs.ty.VariantPortableFormTranscodeMembers.transcode_members.Goals as goal

pub returns-in_err-after_fields-clause-malformed : goal.returns-in_err-after_fields-clause-malformed
returns-in_err-after_fields-clause-malformed c =
    passed_malformed _ _ c.from_residual-in_err-after_fields.ensures.1
    (no_second variant_parts (only_rest text_law c.in_ok-name.ensures.ok))
    c.in_err-after_fields.ensures.malformed

pub returns-in_err-index-clause-malformed : goal.returns-in_err-index-clause-malformed
returns-in_err-index-clause-malformed c =
    passed_malformed _ _ c.from_residual-in_err-index.ensures.1
    (no_third variant_parts (only_rest text_law c.in_ok-name.ensures.ok) c.in_ok-after_fields.ensures.ok)
    c.in_err-index.ensures.malformed

pub returns-in_err-rest-clause-malformed : goal.returns-in_err-rest-clause-malformed
returns-in_err-rest-clause-malformed c =
    passed_malformed _ _ c.from_residual-in_err-rest.ensures.1
    (no_fourth variant_parts (only_rest text_law c.in_ok-name.ensures.ok) c.in_ok-after_fields.ensures.ok
    (only_rest u8_law c.in_ok-index.ensures.ok))
    c.in_err-rest.ensures.malformed

pub returns-in_err-transcode_unless_empty-clause-malformed :
    goal.returns-in_err-transcode_unless_empty-clause-malformed
returns-in_err-transcode_unless_empty-clause-malformed c =
    passed_malformed _ _ c.from_residual-in_err-transcode_unless_empty.ensures.1
    (no_second variant_parts (only_rest text_law c.in_ok-name.ensures.ok))
    c.in_err-transcode_unless_empty.ensures.malformed

pub returns : goal.returns
returns c =
    let docs = c.in_ok-rest.ensures.ok in
    let fields = c.in_ok-transcode_unless_empty.ensures.ok in
    let variant : portable.Variant =
    record {
      name = c.in_ok-name.name.now;
      fields = fields.value;
      index = c.in_ok-index.index;
      docs = docs.value;
    } in
    let read_fields =
    read_again fields.value _ c.in_ok-after_fields.ensures.ok fields.read in
    let read =
    four_parts EncodesText (EncodesList EncodesField) EncodesU8 (EncodesList EncodesText)
    (variant_parts variant) _ _ _ _ _ c.in_ok-name.ensures.ok read_fields c.in_ok-index.ensures.ok
    docs.read in
    let rows =
    four_rows docs.appends fields.appends c.in_ok-write_number.ensures
    c.in_ok-write_str.ensures in
    record { ok = record { value = variant; read = read; append = rows }; malformed = tt }
