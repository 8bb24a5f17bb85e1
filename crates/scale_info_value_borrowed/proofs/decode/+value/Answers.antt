use Rattle.std.proofs.Common.{◌≡◌, ◌-◌, ◌+◌, List, Option, Some, None, find, ◌==◌, arith, ap, sym, ◌∙◌, subst, map, drop}
use Rattle.std.proofs.lemmas.Grind.{common_steps}
use Rattle.scale_info_types.specs.Portable.{Id, Field, Text}
use Rattle.scale_info_types.specs.Shapes.{map_field}
use Rattle.scale_info_value.specs.declared.value.Value.{Value}
use Rattle.scale_info_value.specs.declared.value.Value.TheVariants as Values
use Rattle.scale_info_value.specs.Outcomes.{Decoder, decoded, outcome_map, in_turn}
use Rattle.scale_info_value.specs.Readings.{value_within, definition_within, pair_within}
use Rattle.scale_info_value.specs.Readings.{fields_within, part_within}
use Rattle.scale_info_value.specs.ValueDefinitions.{field}
use Rattle.scale_info_value.proofs.Errors.{passed, repeat_fails, failed_as}
use Rattle.scale_info_value.proofs.InOrder.{alike, preceded, all_fail}
use Rattle.scale_info_value.proofs.Steps.{composite_is, variant_missing, variant_found, primitives_are}
use Rattle.scale_info_value_borrowed.specs.BorrowedValues.{owned_value, field_of}
use Rattle.scale_info_value_borrowed.proofs.Copies.{record_copied, variant_copied}
use Rattle.scale_info_value_borrowed.proofs.InTurn.{one_more_done, one_more_read, first_of, named_value}
use Rattle.scale_info_value_borrowed.proofs.decode.+value.Goals as goal

pub value_within-returns-in_err-definition-clause-err : goal.value_within-returns-in_err-definition-clause-err
value_within-returns-in_err-definition-clause-err g t c =
    failed_as c.from_residual.result c.in_err-definition.field-0.0 c.from_residual.ensures.1 _
    (c.in_err-definition.ensures.unknown c.args.input.now).0

pub list-returns-in_err-definition-clause-err : goal.list-returns-in_err-definition-clause-err
list-returns-in_err-definition-clause-err g t c =
    let read = value_within (c.args.left - 1) (g.T.Definitions.table c.args.table.now) c.args.ty.now.id in
    failed_as c.from_residual.result c.in_err-definition.field-0.0 c.from_residual.ensures.1 _
    (all_fail c.args.count read c.args.input.now _ (omega arith)
    (c.in_err-definition.ensures.unknown c.args.input.now).0)

pub list-returns-clause-ok : goal.list-returns-clause-ok
list-returns-clause-ok g t c =
    rw (alike c.args.count c.args.input.now (λ bytes. (c.in_ok-definition.ensures.known bytes).0)) c.list_by.ensures.ok

pub list-returns-clause-err : goal.list-returns-clause-err
list-returns-clause-err g t c =
    rw (alike c.args.count c.args.input.now (λ bytes. (c.in_ok-definition.ensures.known bytes).0)) c.list_by.ensures.err

pub list_by-returns-in-Primitive-clause-ok : goal.list_by-returns-in-Primitive-clause-ok
list_by-returns-in-Primitive-clause-ok g t c =
    rw (primitives_are c.args.left (g.T.Definitions.table c.args.table.now) c.args.definition.now c.in-Primitive.kind
    c.args.count c.args.input.now c.in-Primitive.is)
    c.primitives.ensures.ok

pub list_by-returns-in-Primitive-clause-err : goal.list_by-returns-in-Primitive-clause-err
list_by-returns-in-Primitive-clause-err g t c =
    rw (primitives_are c.args.left (g.T.Definitions.table c.args.table.now) c.args.definition.now c.in-Primitive.kind c.args.count
    c.args.input.now c.in-Primitive.is)
    c.primitives.ensures.err

pub items-returns-in_err-value-clause-err : goal.items-returns-in_err-value-clause-err
items-returns-in_err-value-clause-err g t c =
    repeat_fails c.args.count (definition_within c.args.left (g.T.Definitions.table c.args.table.now) c.args.definition.now)
    c.args.input.now c.loop.counter (map owned_value c.loop.values) c.loop.rest.now c.from_residual.result
    c.in_err-value.field-0.0 c.from_residual.ensures.1 (omega arith) c.loop.invariant c.in_err-value.ensures.err

pub items-loop-preserved : goal.items-loop-preserved
items-loop-preserved g t c =
    let read = definition_within c.args.left (g.T.Definitions.table c.args.table.now) c.args.definition.now in
    rw c.in_ok-push_towards.ensures.list
    (one_more_done owned_value c.args.count read c.args.input.now c.loop.counter c.loop.values c.loop.rest.now
    c.in_ok-value.value c.in_ok-value.after.now (omega arith) c.loop.invariant c.in_ok-value.ensures.ok)

pub pairs-returns-in_err-pair-clause-err : goal.pairs-returns-in_err-pair-clause-err
pairs-returns-in_err-pair-clause-err g t c =
    repeat_fails c.args.count (pair_within c.args.left (g.T.Definitions.table c.args.table.now) c.args.key.now c.args.value.now)
    c.args.input.now c.loop.counter (map owned_value c.loop.values) c.loop.rest.now c.from_residual.result
    c.in_err-pair.field-0.0 c.from_residual.ensures.1 (omega arith) c.loop.invariant c.in_err-pair.ensures.err

pub pairs-loop-preserved : goal.pairs-loop-preserved
pairs-loop-preserved g t c =
    let read = pair_within c.args.left (g.T.Definitions.table c.args.table.now) c.args.key.now c.args.value.now in
    rw c.in_ok-push_towards.ensures.list
    (one_more_done owned_value c.args.count read c.args.input.now c.loop.counter c.loop.values c.loop.rest.now
    c.in_ok-pair.pair c.in_ok-pair.after.now (omega arith) c.loop.invariant c.in_ok-pair.ensures.ok)

pub members-loop-ty-preserved : goal.members-loop-ty-preserved
members-loop-ty-preserved g t c =
    let part = part_within c.args.left (g.T.Definitions.table c.args.table.now) in
    let readers : List Id → List (Decoder Value) = λ ids. map (λ p. p.value) (map part ids) in
    let whole = in_turn (readers c.args.types.now) c.args.input.now in
    rw c.in_ok-push_towards.ensures.list
    (one_more_read owned_value whole c.loop-ty.values (part c.ty-item.result).value
    (readers (drop (c.loop-ty.ty-index + 1) c.args.types.now)) c.loop-ty.rest.now c.in_ok-value.value
    c.in_ok-value.after.now
    (subst (λ ids. whole ≡ preceded (map owned_value c.loop-ty.values) (in_turn (readers ids) c.loop-ty.rest.now))
    (first_of c.args.types.now c.loop-ty.ty-index c.ty-item.result c.loop-ty-test.true c.ty-item.is)
    c.loop-ty.invariant)
    c.in_ok-value.ensures.ok)

pub fields-loop-field-preserved : goal.fields-loop-field-preserved
fields-loop-field-preserved g t c =
    let part = part_within c.args.left (g.T.Definitions.table c.args.table.now) in
    let reader : Field → Decoder (Option Text × Value) = λ f. field (map_field {G = Unit {0}} part (λ t. t) f) in
    let readers : List Field → List (Decoder (Option Text × Value)) =
    λ fs. map field (map (map_field {G = Unit {0}} part (λ t. t)) fs) in
    let whole = in_turn (readers c.args.all.now) c.args.input.now in
    rw c.in_ok-push_towards.ensures.list
    (one_more_read field_of whole c.loop-field.values (reader c.field-item.result)
    (readers (drop (c.loop-field.field-index + 1) c.args.all.now)) c.loop-field.rest.now
    (c.name_of.result, c.in_ok-value.value) c.in_ok-value.after.now
    (subst (λ fs. whole ≡ preceded (map field_of c.loop-field.values) (in_turn (readers fs) c.loop-field.rest.now))
    (first_of c.args.all.now c.loop-field.field-index c.field-item.result c.loop-field-test.true c.field-item.is)
    c.loop-field.invariant)
    (named_value c.args.left (g.T.Definitions.table c.args.table.now) c.field-item.result c.loop-field.rest.now c.name_of.result
    c.in_ok-value.value c.in_ok-value.after.now c.name_of.ensures c.in_ok-value.ensures.ok))

pub composite_value-returns-clause-ok : goal.composite_value-returns-clause-ok
composite_value-returns-clause-ok g t c =
    composite_is c.args.left (g.T.Definitions.table c.args.table.now) c.args.composite.now c.as_slice.result.now c.args.input.now
    c.as_slice.ensures
    ∙ ap (λ o. outcome_map Values.Record o) c.in_ok-values.ensures.ok
    ∙ ap (λ v. decoded v c.in_ok-values.rest.now) (sym (record_copied c.in_ok-values.values))

pub variant_value-returns-in-None-clause-err : goal.variant_value-returns-in-None-clause-err
variant_value-returns-in-None-clause-err g t c =
    let none : find (λ v. v.index == c.in_ok-index.index) c.args.choice.now.variants ≡ None = grind (arith, common_steps) in
    variant_missing c.args.left (g.T.Definitions.table c.args.table.now) c.args.choice.now.variants c.args.input.now c.in_ok-index.rest.now
    c.in_ok-index.index c.in_ok-index.ensures.ok none

pub variant_value-returns-in_err-fields-in-Some-clause-err : goal.variant_value-returns-in_err-fields-in-Some-clause-err
variant_value-returns-in_err-fields-in-Some-clause-err g t c =
    let some : find (λ v. v.index == c.in_ok-index.index) c.args.choice.now.variants ≡ Some c.in-Some.variant.now =
    grind (arith, common_steps) in
    passed c.from_residual-in_err-fields-in-Some.result c.in_err-fields-in-Some.field-0.0
    c.from_residual-in_err-fields-in-Some.ensures.1
    (fields_within c.args.left (g.T.Definitions.table c.args.table.now) c.as_slice-in-Some.result.now c.in_ok-index.rest.now) _
    (λ why e.
    variant_found c.args.left (g.T.Definitions.table c.args.table.now) c.args.choice.now.variants c.args.input.now c.in_ok-index.rest.now
    c.in_ok-index.index c.in-Some.variant.now c.as_slice-in-Some.result.now c.in_ok-index.ensures.ok some c.as_slice-in-Some.ensures
    ∙ ap (λ o. outcome_map (λ values. Values.Variant c.in-Some.variant.now.name c.in_ok-index.index values) o) e)
    c.in_err-fields-in-Some.ensures.err

pub variant_value-returns-in_ok-fields-in-Some-clause-ok : goal.variant_value-returns-in_ok-fields-in-Some-clause-ok
variant_value-returns-in_ok-fields-in-Some-clause-ok g t c =
    let some : find (λ v. v.index == c.in_ok-index.index) c.args.choice.now.variants ≡ Some c.in-Some.variant.now =
    grind (arith, common_steps) in
    let fields = c.in_ok-fields-in-Some.fields in
    variant_found c.args.left (g.T.Definitions.table c.args.table.now) c.args.choice.now.variants c.args.input.now c.in_ok-index.rest.now
    c.in_ok-index.index c.in-Some.variant.now c.as_slice-in-Some.result.now c.in_ok-index.ensures.ok some c.as_slice-in-Some.ensures
    ∙ ap (λ o. outcome_map (λ values. Values.Variant c.in-Some.variant.now.name c.in_ok-index.index values) o)
    c.in_ok-fields-in-Some.ensures.ok
    ∙ ap (λ name. decoded (Values.Variant name c.in_ok-index.index (map field_of fields)) c.in_ok-fields-in-Some.rest.now)
    (sym c.as_str.ensures)
    ∙ ap (λ v. decoded v c.in_ok-fields-in-Some.rest.now)
    (sym (variant_copied c.as_str.result c.in_ok-index.index fields))
