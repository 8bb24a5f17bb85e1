use Rattle.std.proofs.Common.{◌≡◌, ◌∙◌, Some, ap, map, rules, sym}
use Rattle.scale_info_types.proofs.Iterators.{drained}
use Rattle.scale_info_types.specs.MetaDescriptions.{meta_definition, type_term}
use Rattle.scale_info_types.specs.declared.ty.TypeDef.TheVariants as def
use Rattle.scale_info_type_info.specs.StandardTypes.{defined, tuple_description}
use Rattle.scale_info_type_info.proofs.impls.tuples.tuple_of.Goals as goal

pub returns-clause-ok : goal.returns-clause-ok
returns-clause-ok c = λ members are.
    let given-types = c.in_ok-types.types.items in
    let known : map type_term given-types ≡ members = search rules in
    let (given, (iterator, made, drains), is) = c.in_ok-members.ensures in
    let same = drained iterator given-types given made.0 (search rules) drains in
    let tuple = ap meta_definition c.from.ensures ∙ ap (λ fields. def.Tuple (record { fields = fields; form = tt })) is in
    let described = ap Some (c.built_in.ensures ∙ ap defined tuple) ∙ ap (λ types. tuple_description (map type_term types)) same in
    sym (described ∙ ap tuple_description known)
