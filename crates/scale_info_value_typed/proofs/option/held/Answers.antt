use Rattle.std.proofs.Common.{ap, sym, ◌∙◌, map, option_and_then}
use Rattle.scale_info_value_borrowed.specs.BorrowedValues.{owned_value, field_of}
use Rattle.scale_info_value_borrowed.specs.ValueParts.{fields_in}
use Rattle.scale_info_value_borrowed.proofs.Parts.{variant_found, variant_fields, no_variant}
use Rattle.scale_info_value_typed.specs.Meanings.{held_by}
use Rattle.scale_info_value_typed.proofs.option.held.Goals as goal

pub returns-in-Variant : goal.returns-in-Variant
returns-in-Variant c =
    let value = c.args.value.now in
    let v = c.in-Variant in
    let named = variant_found value v.name v.index v.fields v.is in
    let fields = variant_fields value v.name v.index v.fields v.is in
    c.held_by.ensures ∙ ap (λ all. held_by v.name.now (map field_of all)) c.as_slice.ensures
    ∙ sym (λ i. option_and_then (λ name. held_by name (fields i)) (named i))

pub returns-in_default : goal.returns-in_default
returns-in_default c =
    let value = c.args.value.now in
    sym (ap (λ o. option_and_then (λ name. held_by name (fields_in (owned_value value))) o)
    (no_variant value c.in_default.not-Variant))
