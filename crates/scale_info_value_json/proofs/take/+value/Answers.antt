use Rattle.std.proofs.Common.{◌≡◌, ◌==◌, subst, sym, ◌∙◌, ap, map, find}
use Rattle.std.specs.Str.{bytes_eq}
use Rattle.scale_info_value.specs.declared.value.Value.TheVariants as Values
use Rattle.std.specs.Prelude.{IfOk, IfErr}
use Rattle.serde_json.specs.View.{view}
use Rattle.std.proofs.lemmas.Result.{IfOk-weaker}
use Rattle.scale_info_value_json.specs.Takers.{taken, taken_map, if_found, in_turn, IsErrorOf}
use Rattle.scale_info_value_json.specs.DefinitionTakers.{chosen}
use Rattle.scale_info_value_json.specs.Takings.{definition_within, part_within, seen, fields_within, takers_within, variant_fields_within}
use Rattle.scale_info_value_json.proofs.ShownVariants.{variant_unmeant, variant_missing, variant_misnamed, variant_named}
use Rattle.scale_info_value_json.proofs.SoFar.{passed, passes}
use Rattle.scale_info_value_json.proofs.OneLevel.{object_is, array_items_are, no_array}
use Rattle.scale_info_value_json.proofs.take.+value.Goals as goal

pub fields-returns-then-is_object_of-clause-ok : goal.fields-returns-then-is_object_of-clause-ok
fields-returns-then-is_object_of-clause-ok g t c =
    subst (λ w. IfOk c.object_fields.result (λ values. w ≡ taken values))
    (sym (object_is c.args.left (g.T.Definitions.table c.args.table.now) c.args.all.now (view c.args.tree.now)
    (sym c.is_object_of.ensures ∙ c.if-is_object_of.true)))
    c.object_fields.ensures.ok

pub fields-returns-then-is_object_of-clause-err : goal.fields-returns-then-is_object_of-clause-err
fields-returns-then-is_object_of-clause-err g t c =
    subst (λ w. IfErr c.object_fields.result (IsErrorOf w))
    (sym (object_is c.args.left (g.T.Definitions.table c.args.table.now) c.args.all.now (view c.args.tree.now)
    (sym c.is_object_of.ensures ∙ c.if-is_object_of.true)))
    c.object_fields.ensures.err

pub fields-returns-in-Some-clause-ok : goal.fields-returns-in-Some-clause-ok
fields-returns-in-Some-clause-ok g t c =
    subst (λ w. IfOk c.array_fields.result (λ values. w ≡ taken values))
    (sym (array_items_are c.args.left (g.T.Definitions.table c.args.table.now) c.args.all.now (view c.args.tree.now)
    (map view c.in-Some.trees.now)
    (sym c.is_object_of.ensures ∙ c.if-is_object_of.false) c.in-Some.ensures))
    c.array_fields.ensures.ok

pub fields-returns-in-Some-clause-err : goal.fields-returns-in-Some-clause-err
fields-returns-in-Some-clause-err g t c =
    subst (λ w. IfErr c.array_fields.result (IsErrorOf w))
    (sym (array_items_are c.args.left (g.T.Definitions.table c.args.table.now) c.args.all.now (view c.args.tree.now)
    (map view c.in-Some.trees.now)
    (sym c.is_object_of.ensures ∙ c.if-is_object_of.false) c.in-Some.ensures))
    c.array_fields.ensures.err

pub fields-returns-in-None-clause-err : goal.fields-returns-in-None-clause-err
fields-returns-in-None-clause-err g t c =
    no_array c.args.left (g.T.Definitions.table c.args.table.now) c.args.all.now (view c.args.tree.now)
    (sym c.is_object_of.ensures ∙ c.if-is_object_of.false) c.in-None.ensures

pub variant_value-returns-in_default-chosen-clause-err : goal.variant_value-returns-in_default-chosen-clause-err
variant_value-returns-in_default-chosen-clause-err g t c =
    variant_unmeant (part_within c.args.left (g.T.Definitions.table c.args.table.now)) c.args.choice.now.variants (view c.args.tree.now)
    c.in-Some.name.now (seen c.in-Some.content) c.in-Some.ensures
    (c.in_default-chosen.ensures ∙ ap (λ vs. chosen vs c.in-Some.name.now (seen c.in-Some.content)) c.as_slice.ensures)

pub variant_value-returns-in_default-variant_with_index-clause-err : goal.variant_value-returns-in_default-variant_with_index-clause-err
variant_value-returns-in_default-variant_with_index-clause-err g t c =
    variant_missing c.args.left (g.T.Definitions.table c.args.table.now) c.args.choice.now.variants
    (view c.args.tree.now) c.in-Some.name.now
    (seen c.in-Some.content) c.in-Some-chosen.index (seen c.in-Some-chosen.content) c.in-Some.ensures
    (c.in-Some-chosen.ensures ∙ ap (λ vs. chosen vs c.in-Some.name.now (seen c.in-Some.content)) c.as_slice.ensures)
    (sym (c.in_default-variant_with_index.ensures ∙ ap (find (λ v. v.index == c.in-Some-chosen.index)) c.as_slice-2.ensures))

pub variant_value-returns-then-not-is_named-clause-err : goal.variant_value-returns-then-not-is_named-clause-err
variant_value-returns-then-not-is_named-clause-err g t c =
    variant_misnamed c.args.left (g.T.Definitions.table c.args.table.now) c.args.choice.now.variants
    (view c.args.tree.now) c.in-Some.name.now
    (seen c.in-Some.content) c.in-Some-chosen.index (seen c.in-Some-chosen.content) c.in-Some.ensures
    (c.in-Some-chosen.ensures ∙ ap (λ vs. chosen vs c.in-Some.name.now (seen c.in-Some.content)) c.as_slice.ensures)
    c.in-Some-variant_with_index.variant.now
    (sym (c.in-Some-variant_with_index.ensures ∙ ap (find (λ v. v.index == c.in-Some-chosen.index)) c.as_slice-2.ensures))
    (ap (λ s. bytes_eq s c.in-Some.name.now) (sym c.as_str.ensures) ∙ sym c.eq-is_named.ensures ∙ c.if-not-is_named.true)

pub variant_value-returns-in_err-fields-clause-err : goal.variant_value-returns-in_err-fields-clause-err
variant_value-returns-in_err-fields-clause-err g t c =
    let v = c.in-Some-variant_with_index.variant.now in
    let named =
    variant_named c.args.left (g.T.Definitions.table c.args.table.now) c.args.choice.now.variants (view c.args.tree.now) c.in-Some.name.now
    (seen c.in-Some.content) c.in-Some-chosen.index (seen c.in-Some-chosen.content) c.in-Some.ensures
    (c.in-Some-chosen.ensures ∙ ap (λ vs. chosen vs c.in-Some.name.now (seen c.in-Some.content)) c.as_slice.ensures) v
    (sym (c.in-Some-variant_with_index.ensures ∙ ap (find (λ v. v.index == c.in-Some-chosen.index)) c.as_slice-2.ensures))
    (ap (λ s. bytes_eq s c.in-Some.name.now) (sym c.as_str.ensures) ∙ sym c.eq-is_named.ensures ∙ c.if-not-is_named.false) in
    let part = variant_fields_within c.args.left (g.T.Definitions.table c.args.table.now) v.fields (seen c.in-Some-chosen.content) in
    let of_part : IsErrorOf part c.in_err-fields.field-0.0 =
    subst (λ fs. IsErrorOf (variant_fields_within c.args.left (g.T.Definitions.table c.args.table.now) fs (seen c.in-Some-chosen.content))
    c.in_err-fields.field-0.0) c.as_slice-all.ensures c.in_err-fields.ensures.err in
    passed c.from_residual.result c.in_err-fields.field-0.0 _ c.from_residual.ensures.1
    (passes part _ c.in_err-fields.field-0.0
    (λ why r. named ∙ ap (taken_map (λ values. Values.Variant v.name c.in-Some-chosen.index values)) r) of_part)

pub variant_value-returns-clause-ok : goal.variant_value-returns-clause-ok
variant_value-returns-clause-ok g t c =
    let v = c.in-Some-variant_with_index.variant.now in
    variant_named c.args.left (g.T.Definitions.table c.args.table.now) c.args.choice.now.variants (view c.args.tree.now) c.in-Some.name.now
    (seen c.in-Some.content) c.in-Some-chosen.index (seen c.in-Some-chosen.content) c.in-Some.ensures
    (c.in-Some-chosen.ensures ∙ ap (λ vs. chosen vs c.in-Some.name.now (seen c.in-Some.content)) c.as_slice.ensures) v
    (sym (c.in-Some-variant_with_index.ensures ∙ ap (find (λ v. v.index == c.in-Some-chosen.index)) c.as_slice-2.ensures))
    (ap (λ s. bytes_eq s c.in-Some.name.now) (sym c.as_str.ensures) ∙ sym c.eq-is_named.ensures ∙ c.if-not-is_named.false)
    ∙ ap (taken_map (λ values. Values.Variant v.name c.in-Some-chosen.index values))
    (ap (λ fs. variant_fields_within c.args.left (g.T.Definitions.table c.args.table.now) fs (seen c.in-Some-chosen.content))
    (sym c.as_slice-all.ensures)
    ∙ c.in_ok-fields.ensures.ok)
    ∙ ap (λ n. taken (Values.Variant n c.in-Some-chosen.index c.in_ok-fields.fields)) (sym c.in_ok-name.ensures)

pub value_within-returns-in_err-definition-clause-err : goal.value_within-returns-in_err-definition-clause-err
value_within-returns-in_err-definition-clause-err g t c =
    passed c.from_residual.result c.in_err-definition.field-0.0 _ c.from_residual.ensures.1
    (c.in_err-definition.ensures.unknown (view c.args.tree.now)).0

pub value_within-returns-clause-ok : goal.value_within-returns-clause-ok
value_within-returns-clause-ok g t c =
    IfOk-weaker c.value_by.result _ _ (λ value e. (c.in_ok-definition.ensures.known (view c.args.tree.now)).0 ∙ e)
    c.value_by.ensures.ok

pub value_within-returns-clause-err : goal.value_within-returns-clause-err
value_within-returns-clause-err g t c =
    subst (λ w. IfErr c.value_by.result (IsErrorOf w)) (sym (c.in_ok-definition.ensures.known (view c.args.tree.now)).0)
    c.value_by.ensures.err

pub value_by-returns-in_err-kind-in-Compact-clause-err : goal.value_by-returns-in_err-kind-in-Compact-clause-err
value_by-returns-in_err-kind-in-Compact-clause-err g t c =
    let why = c.in_err-kind-in-Compact.field-0.0 in
    passed c.from_residual.result why _ c.from_residual.ensures.1
    (subst (λ d. IsErrorOf (definition_within c.args.left (g.T.Definitions.table c.args.table.now) d (view c.args.tree.now)) why)
    (sym c.in-Compact.is)
    (c.in_err-kind-in-Compact.ensures.err (view c.args.tree.now)))

pub composite_value-returns-clause-ok : goal.composite_value-returns-clause-ok
composite_value-returns-clause-ok g t c =
    ap (λ fs. taken_map Values.Record (fields_within c.args.left (g.T.Definitions.table c.args.table.now) fs (view c.args.tree.now)))
    (sym c.as_slice.ensures)
    ∙ ap (taken_map Values.Record) c.in_ok-values.ensures.ok

pub tuple_value-returns-in_err-members-in-Some-clause-err : goal.tuple_value-returns-in_err-members-in-Some-clause-err
tuple_value-returns-in_err-members-in-Some-clause-err g t c =
    let takers = takers_within c.args.left (g.T.Definitions.table c.args.table.now) c.args.tuple.now.fields in
    let part = in_turn takers (map view c.in-Some.trees.now) in
    let of_part : IsErrorOf part c.in_err-members-in-Some.field-0.0 =
    subst (λ types. IsErrorOf (in_turn (takers_within c.args.left (g.T.Definitions.table c.args.table.now) types)
    (map view c.in-Some.trees.now))
    c.in_err-members-in-Some.field-0.0) c.as_slice-types.ensures c.in_err-members-in-Some.ensures.err in
    passed c.from_residual.result c.in_err-members-in-Some.field-0.0 _ c.from_residual.ensures.1
    (passes part _ c.in_err-members-in-Some.field-0.0
    (λ why r. ap (λ found. taken_map Values.List (if_found found (in_turn takers))) (sym c.in-Some.ensures) ∙ ap (taken_map Values.List) r)
    of_part)
