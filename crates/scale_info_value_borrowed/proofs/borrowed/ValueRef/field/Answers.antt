use Rattle.std.proofs.Common.{ap, sym, ◌∙◌, map}
use Rattle.scale_info_value_borrowed.specs.BorrowedValues.{field_of}
use Rattle.scale_info_value_borrowed.specs.ValueParts.{value_under}
use Rattle.scale_info_value_borrowed.proofs.Parts.{record_found, variant_fields, no_fields}
use Rattle.scale_info_value_borrowed.proofs.borrowed.ValueRef.field.Goals as goal

pub returns-in-Record : goal.returns-in-Record
returns-in-Record c =
    c.first_named.ensures
    ∙ ap (λ fs. value_under c.args.name.now (map field_of fs)) c.as_slice.ensures
    ∙ ap (λ fs. value_under c.args.name.now fs) (sym (record_found c.args.self.now c.in-Record.fields c.in-Record.is))

pub returns-in-Variant : goal.returns-in-Variant
returns-in-Variant c =
    c.first_named-in-Variant.ensures
    ∙ ap (λ fs. value_under c.args.name.now (map field_of fs)) c.as_slice-in-Variant.ensures
    ∙ ap (λ fs. value_under c.args.name.now fs)
    (sym (variant_fields c.args.self.now c.in-Variant.name c.in-Variant.index c.in-Variant.fields c.in-Variant.is))

pub returns-in_default : goal.returns-in_default
returns-in_default c =
    ap (λ fs. value_under c.args.name.now fs)
    (sym (no_fields c.args.self.now c.in_default.not-Record c.in_default.not-Variant))
