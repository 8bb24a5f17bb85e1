use Rattle.std.proofs.Common.{◌∙◌, ap, sym, ◌&&◌, map}
use Rattle.scale_info_value_json.specs.TreesOfTexts.{fields_hold, has_own_names, own_names}
use Rattle.scale_info_value_json.proofs.OwnNames.{record_own, variant_own}
use Rattle.scale_info_value_json.proofs.names.+own_names.Goals as goal

pub has_own_names-returns-in-Record : goal.has_own_names-returns-in-Record
has_own_names-returns-in-Record t c =
    rw c.in-Record.is
    (c.fields_own.ensures
    ∙ ap (λ fields. own_names (map (λ f. f.0) fields) && fields_hold (map (λ f. (f.0, has_own_names f.1)) fields)) c.as_slice-in-Record.ensures
    ∙ sym (record_own _))

pub has_own_names-returns-in-Variant : goal.has_own_names-returns-in-Variant
has_own_names-returns-in-Variant t c =
    rw c.in-Variant.is
    (c.fields_own-in-Variant.ensures
    ∙ ap (λ fields. own_names (map (λ f. f.0) fields) && fields_hold (map (λ f. (f.0, has_own_names f.1)) fields)) c.as_slice-in-Variant.ensures
    ∙ sym (variant_own _ _ _))
