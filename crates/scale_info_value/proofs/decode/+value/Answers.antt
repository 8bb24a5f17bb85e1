use Rattle.std.proofs.Common.{◌≡◌, ◌-◌, Some, None, find, ◌==◌, arith, ap, sym, ◌∙◌, map}
use Rattle.std.proofs.lemmas.Grind.{common_steps}
use Rattle.scale_info_value.specs.declared.value.Value.TheVariants as Values
use Rattle.scale_info_value.specs.Outcomes.{decoded, outcome_map, and_then}
use Rattle.scale_info_value.specs.Readings.{value_within, definition_within, pair_within}
use Rattle.scale_info_value.specs.Readings.{fields_within, items_within, pairs_within, part_within}
use Rattle.scale_info_value.specs.ValueDefinitions.{fields_of}
use Rattle.scale_info_types.specs.Shapes.{map_variant}
use Rattle.scale_info_value.proofs.Errors.{passed, repeat_fails, failed_as}
use Rattle.scale_info_value.proofs.InOrder.{alike, done_more, all_fail}
use Rattle.scale_info_value.proofs.Steps.{composite_is, variant_missing, variant_found, primitives_are}
use Rattle.scale_info_value.proofs.decode.+value.Goals as goal

pub value_within-returns-in_err-definition-clause-err : goal.value_within-returns-in_err-definition-clause-err
value_within-returns-in_err-definition-clause-err g t c =
    failed_as c.from_residual.result c.in_err-definition.field-0.0 c.from_residual.ensures.1 _
    (c.in_err-definition.ensures.unknown c.args.input.now).0

pub items-returns-in_err-definition-clause-err : goal.items-returns-in_err-definition-clause-err
items-returns-in_err-definition-clause-err g t c =
    let read = value_within (c.args.left - 1) (g.T.Definitions.table c.args.table.now) c.args.ty.now.id in
    failed_as c.from_residual.result c.in_err-definition.field-0.0 c.from_residual.ensures.1 _
    (all_fail c.args.count read c.args.input.now _ (omega arith)
    (c.in_err-definition.ensures.unknown c.args.input.now).0)

pub items-returns-clause-ok : goal.items-returns-clause-ok
items-returns-clause-ok g t c =
    rw (alike c.args.count c.args.input.now (λ bytes. (c.in_ok-definition.ensures.known bytes).0)) c.items_by.ensures.ok

pub items-returns-clause-err : goal.items-returns-clause-err
items-returns-clause-err g t c =
    rw (alike c.args.count c.args.input.now (λ bytes. (c.in_ok-definition.ensures.known bytes).0)) c.items_by.ensures.err

pub items_by-returns-in_err-value-clause-err : goal.items_by-returns-in_err-value-clause-err
items_by-returns-in_err-value-clause-err g t c =
    repeat_fails c.args.count (definition_within c.args.left (g.T.Definitions.table c.args.table.now) c.args.definition.now)
    c.args.input.now c.loop.counter c.loop.values c.loop.rest.now c.from_residual.result
    c.in_err-value.field-0.0 c.from_residual.ensures.1 (omega arith) c.loop.invariant c.in_err-value.ensures.err

pub items_by-returns-in-Primitive-clause-ok : goal.items_by-returns-in-Primitive-clause-ok
items_by-returns-in-Primitive-clause-ok g t c =
    rw (primitives_are c.args.left (g.T.Definitions.table c.args.table.now) c.args.definition.now c.in-Primitive.kind
    c.args.count c.args.input.now c.in-Primitive.is)
    c.primitives.ensures.ok

pub items_by-returns-in-Primitive-clause-err : goal.items_by-returns-in-Primitive-clause-err
items_by-returns-in-Primitive-clause-err g t c =
    rw (primitives_are c.args.left (g.T.Definitions.table c.args.table.now) c.args.definition.now c.in-Primitive.kind c.args.count
    c.args.input.now c.in-Primitive.is)
    c.primitives.ensures.err

pub items_by-loop-preserved : goal.items_by-loop-preserved
items_by-loop-preserved g t c =
    let read = definition_within c.args.left (g.T.Definitions.table c.args.table.now) c.args.definition.now in
    rw c.in_ok-push_towards.ensures.list
    (done_more c.args.count read c.args.input.now c.loop.counter c.loop.values c.loop.rest.now c.in_ok-value.value
    c.in_ok-value.after.now (omega arith) c.loop.invariant c.in_ok-value.ensures.ok)

pub pairs-returns-in_err-pair-clause-err : goal.pairs-returns-in_err-pair-clause-err
pairs-returns-in_err-pair-clause-err g t c =
    repeat_fails c.args.count
    (pair_within c.args.left (g.T.Definitions.table c.args.table.now) c.args.map.now.key
    c.args.map.now.value)
    c.args.input.now c.loop.counter c.loop.values c.loop.rest.now c.from_residual.result
    c.in_err-pair.field-0.0 c.from_residual.ensures.1 (omega arith) c.loop.invariant c.in_err-pair.ensures.err

pub pairs-loop-preserved : goal.pairs-loop-preserved
pairs-loop-preserved g t c =
    let read =
    pair_within c.args.left (g.T.Definitions.table c.args.table.now) c.args.map.now.key
    c.args.map.now.value in
    rw c.in_ok-push_towards.ensures.list
    (done_more c.args.count read c.args.input.now c.loop.counter c.loop.values c.loop.rest.now c.in_ok-pair.pair
    c.in_ok-pair.after.now (omega arith) c.loop.invariant c.in_ok-pair.ensures.ok)

pub composite_value-returns-in_err-values-clause-err : goal.composite_value-returns-in_err-values-clause-err
composite_value-returns-in_err-values-clause-err g t c =
    passed c.from_residual.result c.in_err-values.field-0.0 c.from_residual.ensures.1
    (fields_within c.args.left (g.T.Definitions.table c.args.table.now) c.as_slice.result.now c.args.input.now) _
    (λ why e.
    composite_is c.args.left (g.T.Definitions.table c.args.table.now) c.args.composite.now c.as_slice.result.now c.args.input.now
    c.as_slice.ensures
    ∙ ap (λ o. outcome_map Values.Record o) e)
    c.in_err-values.ensures.err

pub composite_value-returns-clause-ok : goal.composite_value-returns-clause-ok
composite_value-returns-clause-ok g t c =
    composite_is c.args.left (g.T.Definitions.table c.args.table.now) c.args.composite.now c.as_slice.result.now c.args.input.now
    c.as_slice.ensures
    ∙ ap (λ o. outcome_map Values.Record o) c.in_ok-values.ensures.ok

pub variant_value-returns-in-None-clause-err : goal.variant_value-returns-in-None-clause-err
variant_value-returns-in-None-clause-err g t c =
    let none : find (λ v. v.index == c.in_ok-index.index) c.args.choice.now.variants ≡ None = grind (arith, common_steps) in
    variant_missing c.args.left (g.T.Definitions.table c.args.table.now) c.args.choice.now.variants c.args.input.now c.in_ok-index.rest.now
    c.in_ok-index.index c.in_ok-index.ensures.ok none

pub variant_value-returns-in_err-fields-in-Some-clause-err : goal.variant_value-returns-in_err-fields-in-Some-clause-err
variant_value-returns-in_err-fields-in-Some-clause-err g t c =
    let some : find (λ v. v.index == c.in_ok-index.index) c.args.choice.now.variants ≡ Some c.in-Some.variant.now =
    grind (arith, common_steps) in
    passed c.from_residual-in_err-fields-in-Some.result c.in_err-fields-in-Some.field-0.0
    c.from_residual-in_err-fields-in-Some.ensures.1
    (fields_within c.args.left (g.T.Definitions.table c.args.table.now) c.as_slice-in-Some.result.now c.in_ok-index.rest.now) _
    (λ why e.
    variant_found c.args.left (g.T.Definitions.table c.args.table.now) c.args.choice.now.variants c.args.input.now c.in_ok-index.rest.now
    c.in_ok-index.index c.in-Some.variant.now c.as_slice-in-Some.result.now c.in_ok-index.ensures.ok some c.as_slice-in-Some.ensures
    ∙ ap (λ o. outcome_map (λ values. Values.Variant c.in-Some.variant.now.name c.in_ok-index.index values) o) e)
    c.in_err-fields-in-Some.ensures.err

pub variant_value-returns-in_ok-name-in-Some-clause-ok : goal.variant_value-returns-in_ok-name-in-Some-clause-ok
variant_value-returns-in_ok-name-in-Some-clause-ok g t c =
    let some : find (λ v. v.index == c.in_ok-index.index) c.args.choice.now.variants ≡ Some c.in-Some.variant.now =
    grind (arith, common_steps) in
    variant_found c.args.left (g.T.Definitions.table c.args.table.now) c.args.choice.now.variants c.args.input.now c.in_ok-index.rest.now
    c.in_ok-index.index c.in-Some.variant.now c.as_slice-in-Some.result.now c.in_ok-index.ensures.ok some c.as_slice-in-Some.ensures
    ∙ ap (λ o. outcome_map (λ values. Values.Variant c.in-Some.variant.now.name c.in_ok-index.index values) o)
    c.in_ok-fields-in-Some.ensures.ok
    ∙ ap (λ name.
    decoded (Values.Variant name c.in_ok-index.index c.in_ok-fields-in-Some.fields) c.in_ok-fields-in-Some.rest.now)
    (sym c.in_ok-name-in-Some.ensures)

pub variant_value-returns-in_err-index-clause-err : goal.variant_value-returns-in_err-index-clause-err
variant_value-returns-in_err-index-clause-err g t c =
    let variants = map (map_variant {G = Unit {0}} (part_within c.args.left (g.T.Definitions.table c.args.table.now)) (λ t. t))
    c.args.choice.now.variants in
    failed_as c.from_residual.result c.in_err-index.field-0.0 c.from_residual.ensures.1 _
    (ap (λ o. and_then o (λ index rest. fields_of index (find (λ v. v.index == index) variants) rest))
    c.in_err-index.ensures.err)

pub sequence_value-returns-in_err-count-clause-err : goal.sequence_value-returns-in_err-count-clause-err
sequence_value-returns-in_err-count-clause-err g t c =
    failed_as c.from_residual.result c.in_err-count.field-0.0 c.from_residual.ensures.1 _
    (ap (λ o. outcome_map Values.List (and_then o (λ n rest.
    items_within c.args.left (g.T.Definitions.table c.args.table.now) c.args.sequence.now.type_param n rest)))
    c.in_err-count.ensures.err)

pub map_value-returns-in_err-count-clause-err : goal.map_value-returns-in_err-count-clause-err
map_value-returns-in_err-count-clause-err g t c =
    failed_as c.from_residual.result c.in_err-count.field-0.0 c.from_residual.ensures.1 _
    (ap (λ o. outcome_map Values.List (and_then o (λ n rest.
    pairs_within c.args.left (g.T.Definitions.table c.args.table.now) c.args.map.now.key c.args.map.now.value n rest)))
    c.in_err-count.ensures.err)
