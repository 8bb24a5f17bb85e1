use Rattle.std.proofs.Common.{rules, ◌≡◌, ◌∙◌, ◌++◌, false, ap, map, sym}
use Rattle.std.proofs.lemmas.List.{map-append}
use Rattle.std.specs.Prelude.{if◌then◌else◌, [], ◌∷◌}
use Rattle.scale_info_types.specs.Phantoms.{is_phantom}
use Rattle.scale_info_type_info.specs.StandardTypes.{meta_field}
use Rattle.scale_info_type_info.proofs.impls.parts.keep.Goals as goal

pub returns : goal.returns
returns c =
    let field = meta_field c.args.field in
    let fields = map meta_field c.args.fields.items in
    let no : c.is_phantom.result ≡ false = search rules in
    let other : is_phantom field.ty ≡ false = sym c.is_phantom.ensures ∙ no in
    ap (map meta_field) c.in_ok-push.ensures.items
    ∙ map-append meta_field c.args.fields.items (c.args.field ∷ [])
    ∙ ap (λ b. fields ++ (if b then [] else field ∷ [])) (sym other)
