use Rattle.std.proofs.Common.{ap, sym, ◌∙◌, map}
use Rattle.scale_info_value.specs.declared.value.Value.TheVariants as Values
use Rattle.scale_info_value_borrowed.specs.BorrowedValues.{owned_value, field_of}
use Rattle.scale_info_value_borrowed.proofs.Copies.{record_copied, variant_copied}
use Rattle.scale_info_value_borrowed.proofs.owned.+owned.Goals as goal

pub owned-returns-in_ok-fields-in-Record : goal.owned-returns-in_ok-fields-in-Record
owned-returns-in_ok-fields-in-Record t c =
    ap (λ fs. Values.Record fs)
    (c.in_ok-fields-in-Record.ensures ∙ ap (λ fs. map field_of fs) c.as_slice-in-Record.ensures)
    ∙ sym (ap owned_value c.in-Record.is ∙ record_copied c.in-Record.all)

pub owned-returns-in_ok-name-in-Variant : goal.owned-returns-in_ok-name-in-Variant
owned-returns-in_ok-name-in-Variant t c =
    let fields = c.in_ok-fields-in-Variant.ensures ∙ ap (λ fs. map field_of fs) c.as_slice-in-Variant.ensures in
    (λ i. Values.Variant (c.in_ok-name-in-Variant.ensures i) c.in-Variant.index (fields i))
    ∙ sym (ap owned_value c.in-Variant.is ∙ variant_copied c.in-Variant.name c.in-Variant.index c.in-Variant.all)
