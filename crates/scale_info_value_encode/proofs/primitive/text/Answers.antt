use Rattle.std.proofs.Common.{ap, sym, ◌∙◌, subst}
use Rattle.scale_info_bytes.specs.Encodings.{HasNoEncoding, IfTooLong}
use Rattle.scale_info_bytes.specs.Strings.{EncodesText}
use Rattle.scale_info_value.specs.declared.value.Value.TheVariants as Values
use Rattle.scale_info_value_encode.specs.DefinitionWriters.{text, text_in}
use Rattle.scale_info_value_encode.proofs.Appending.{appends_map, is_held, no_text}
use Rattle.scale_info_value_encode.proofs.Texts.{encodes_text}
use Rattle.scale_info_value_encode.proofs.ValueKinds.{texts}
use Rattle.scale_info_value_encode.proofs.primitive.text.Goals as goal

pub returns-in-Ok-clause-ok : goal.returns-in-Ok-clause-ok
returns-in-Ok-clause-ok c =
    let is = c.in-Text.is ∙ ap Values.Text (sym c.as_str.ensures) in
    appends_map (λ b e.
    is_held Values.Text text_in text texts c.args.value.now c.as_str.result.now is
    ∙ encodes_text c.as_str.result.now b e)
    c.in-Ok.ensures.ok

pub returns-in-Err-TooLong-clause-err : goal.returns-in-Err-TooLong-clause-err
returns-in-Err-TooLong-clause-err c =
    let is = c.in-Text.is ∙ ap Values.Text (sym c.as_str.ensures) in
    is_held Values.Text text_in text texts c.args.value.now c.as_str.result.now is
    ∙ no_text c.as_str.result.now
    (subst (IfTooLong (HasNoEncoding (EncodesText c.as_str.result.now))) c.in-Err-TooLong.field-0-is
    c.in-Err-TooLong.ensures.too_long)
