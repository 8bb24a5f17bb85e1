use Rattle.std.proofs.Common.{◌≡◌, find, option_map, Some, ap, sym, ◌∙◌}
use Rattle.std.specs.Option.{option_copied}
use Rattle.std.specs.Str.{bytes_eq}
use Rattle.scale_info_types.specs.declared.ty.TypeDef.TheVariants as def
use Rattle.scale_info_value.specs.BuiltValues.{index_of}
use Rattle.scale_info_value.specs.Readings.{type_at}
use Rattle.scale_info_value.proofs.variants.variant_index.Goals as goal

pub returns-in-Some-Variant : goal.returns-in-Some-Variant
returns-in-Some-Variant g c =
    let arm = c.in-Some-Variant in
    let o = option_map (λ d. d.type_def) (type_at (g.T.Definitions.table c.args.types.now) c.args.id) in
    let known : o ≡ Some (def.Variant arm.choice) = sym c.definition.ensures ∙ ap option_copied arm.is ∙ ap Some arm.field-0-is in
    c.index_with_name.ensures
    ∙ ap (λ all. option_map (λ v. v.index) (find (λ v. bytes_eq v.name c.args.name.now) all)) c.as_slice.ensures
    ∙ ap (index_of c.args.name.now) (sym known)
