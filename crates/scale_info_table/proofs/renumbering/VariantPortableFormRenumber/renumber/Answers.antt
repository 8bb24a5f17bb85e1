use Rattle.std.proofs.Common.{ap, map, ◌∙◌}
use Rattle.scale_info_types.specs.Portable.{Id}
use Rattle.scale_info_types.specs.Shapes.{map_field}
use Rattle.scale_info_types.specs.declared.form.PortableForm.{PortableForm}
use Rattle.scale_info_table.proofs.Renumbered.{same, variant_read}
use Rattle.scale_info_references.specs.Conversions.{number_of, symbol}
use Rattle.scale_info_table.proofs.renumbering.VariantPortableFormRenumber.renumber.Goals as goal

pub returns : goal.returns
returns c =
    let read = λ (r : Id). symbol (number_of c.args.numbers.now r) in
    variant_read read c.args.self.now c.renumbered_all.result
    (c.renumbered_all.ensures ∙ ap (map (map_field {G = PortableForm} read same)) c.replace-fields.ensures.value)
