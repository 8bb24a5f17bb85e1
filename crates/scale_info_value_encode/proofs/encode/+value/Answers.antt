use Rattle.std.proofs.Common.{◌≡◌, ◌-◌, ◌+◌, ◌<◌, ◌==◌, true, false, Some, None, [], find, length, take, drop, replicate, arith, ◌⊎◌, refl, sym, subst}
use Rattle.std.proofs.lemmas.Grind.{common_steps}
use Rattle.std.proofs.lemmas.List.{append-nil}
use Rattle.std.specs.Str.{bytes_eq}
use Rattle.std.specs.Prelude.{IfErr, OnOk}
use Rattle.std.specs.Option.{option_eq}
use Rattle.scale_info_types.specs.Shapes.{map_field}
use Rattle.scale_info_value_encode.specs.declared.path.Step.TheVariants as step
use Rattle.scale_info_value_encode.specs.Writers.{item, in_turn, refused, mismatch, Appends}
use Rattle.scale_info_value_encode.specs.Failures.{Fails, error_of}
use Rattle.scale_info_value_encode.specs.DefinitionWriters.{field, items, pairs}
use Rattle.scale_info_value_encode.specs.Writings.{value_within, definition_within, part_within, pair_within}
use Rattle.scale_info_value_encode.proofs.InTurn.{next_value, next_part, next_entry, no_next_value, first_of_all, alike, uneven, tail_whole, none_left}
use Rattle.scale_info_value_encode.proofs.SoFar.{SoFar, appended, passed, both, fails, ends, done, goes_on, first_fails, next_fails, part_appended}
use Rattle.scale_info_value_encode.proofs.Steps.{composite_is, tuple_is, counted_list, second_of_pair, variant_missing, variant_misnamed, variant_named, pair_is, field_named, field_misnamed}
use Rattle.scale_info_value_encode.proofs.encode.+value.Goals as goal

pub composite_value-returns-in-Record : goal.composite_value-returns-in-Record
composite_value-returns-in-Record g t c =
    let whole =
    composite_is c.args.left (g.T.Definitions.table c.args.table.now) c.args.composite.now c.args.value.now c.in-Record.values
    c.as_slice-in-Record.result.now c.as_slice.result.now c.in-Record.is c.as_slice-in-Record.ensures c.as_slice.ensures in
    record {
      ok = subst (λ w. OnOk c.fields.result (Appends w c.args.out.now.items c.fields.new.out.items)) (sym whole) c.fields.ensures.ok;
      err = subst (λ w. IfErr c.fields.result (Fails w c.fields.new.steps.items)) (sym whole) c.fields.ensures.err;
      kept = c.fields.ensures.kept;
    }

pub tuple_value-returns-in-List-clause-err : goal.tuple_value-returns-in-List-clause-err
tuple_value-returns-in-List-clause-err g t c =
    subst (λ w. IfErr c.members.result (Fails w c.members.new.steps.items))
    (sym (tuple_is c.args.left (g.T.Definitions.table c.args.table.now) c.args.tuple.now c.args.value.now c.in-List.values
    c.as_slice-in-List.result.now c.as_slice.result.now c.in-List.is c.as_slice-in-List.ensures c.as_slice.ensures))
    c.members.ensures.err

pub items-returns-clause-err : goal.items-returns-clause-err
items-returns-clause-err g t c =
    subst (λ w. IfErr c.items_by.result (Fails w c.items_by.new.steps.items))
    (sym (alike c.args.count (value_within (c.args.left - 1) (g.T.Definitions.table c.args.table.now) c.args.ty.now.id)
    (definition_within (c.args.left - 1) (g.T.Definitions.table c.args.table.now) c.in-Ok.definition.now) c.args.values.now
    (λ value. (c.in-Ok.ensures.known value).0)))
    c.items_by.ensures.err

pub items-returns-then-count-eq0-2-clause-err : goal.items-returns-then-count-eq0-2-clause-err
items-returns-then-count-eq0-2-clause-err g t c =
    let apart : c.args.count ≡ 0 → length c.args.values.now ≡ 0 → ⊥ = λ n e. grind (arith, common_steps) in
    let some : (c.args.count ≡ 0) ⊎ (length c.args.values.now ≡ 0) = grind (arith, common_steps) in
    subst (λ w. Fails w c.mismatch.new.steps.items c.mismatch.result)
    (sym (uneven c.args.count (item (value_within (c.args.left - 1)
    (g.T.Definitions.table c.args.table.now) c.args.ty.now.id)) c.args.values.now apart some))
    c.mismatch.ensures

pub items_by-returns-in_default-clause-err : goal.items_by-returns-in_default-clause-err
items_by-returns-in_default-clause-err g t c =
    let write = item (definition_within c.args.left (g.T.Definitions.table c.args.table.now) c.args.definition.now) in
    let e = error_of c.mismatch.new.steps.items c.mismatch.result in
    fails _ _ _ _ e c.loop-place.invariant
    (subst (λ w. Fails w c.mismatch.new.steps.items c.mismatch.result)
    (sym (no_next_value c.args.count c.loop-place.place write c.loop-place.rest.now (omega arith) c.in_default.len_below))
    c.mismatch.ensures)

pub sequence_value-returns-in_ok-without_parts-in-List : goal.sequence_value-returns-in_ok-without_parts-in-List
sequence_value-returns-in_ok-without_parts-in-List g t c =
    let all =
    counted_list (λ n. items n (part_within c.args.left (g.T.Definitions.table c.args.table.now) c.args.sequence.now.type_param))
    c.items.result
    _ _ _ _ _ _
    c.in-List.is c.as_slice-values.ensures (done c.count.result _ c.in_ok-without_parts-in-List.ensures.same c.count.ensures.ok)
    c.items.new.steps.items c.items.ensures.ok c.items.ensures.err c.items.ensures.kept in
    record { ok = all.0; err = all.1; kept = all.2 }

pub map_value-returns-in_ok-without_parts-in-List : goal.map_value-returns-in_ok-without_parts-in-List
map_value-returns-in_ok-without_parts-in-List g t c =
    let all =
    counted_list
    (λ n. pairs n (part_within c.args.left (g.T.Definitions.table c.args.table.now) c.args.map.now.key)
    (part_within c.args.left (g.T.Definitions.table c.args.table.now) c.args.map.now.value)) c.pairs.result _ _ _ _ _ _
    c.in-List.is c.as_slice-entries.ensures (done c.count.result _ c.in_ok-without_parts-in-List.ensures.same c.count.ensures.ok)
    c.pairs.new.steps.items c.pairs.ensures.ok c.pairs.ensures.err c.pairs.ensures.kept in
    record { ok = all.0; err = all.1; kept = all.2 }

pub value_within-returns-in_err-definition-clause-err : goal.value_within-returns-in_err-definition-clause-err
value_within-returns-in_err-definition-clause-err g t c =
    passed c.from_residual.result c.in_err-definition.field-0.0 _ _ c.from_residual.ensures.1
    (c.in_err-definition.ensures.unknown c.args.value.now _).0

pub items-returns-in-Err-clause-err : goal.items-returns-in-Err-clause-err
items-returns-in-Err-clause-err g t c =
    let some : 0 < length c.args.values.now = grind (arith, common_steps) in
    first_of_all c.args.count (item (value_within (c.args.left - 1)
    (g.T.Definitions.table c.args.table.now) c.args.ty.now.id)) c.args.values.now
    (error_of c.of_whole.new.steps.items c.of_whole.result) (omega arith) some
    (λ value. c.of_whole.ensures (value_within (c.args.left - 1) (g.T.Definitions.table c.args.table.now) c.args.ty.now.id value)
    (c.in-Err.ensures.unknown value _).0)

pub items_by-returns-in-Err-clause-err : goal.items_by-returns-in-Err-clause-err
items_by-returns-in-Err-clause-err g t c =
    let write = definition_within c.args.left (g.T.Definitions.table c.args.table.now) c.args.definition.now in
    next_fails _ _ _ _ _ _ (error_of c.of_whole.new.steps.items c.of_whole.result) c.loop-place.invariant
    (next_value c.args.count c.loop-place.place (item write) c.loop-place.rest.now c.value-item.result (omega arith)
    c.in-len1-up.len_at_least c.value-item.is)
    (c.of_whole.ensures (write c.value-item.result) c.in-Err.ensures.err)

pub items_by-loop-place-preserved : goal.items_by-loop-place-preserved
items_by-loop-place-preserved g t c =
    let write = definition_within c.args.left (g.T.Definitions.table c.args.table.now) c.args.definition.now in
    let next =
    next_value c.args.count c.loop-place.place (item write) c.loop-place.rest.now c.value-item.result (omega arith)
    c.in-len1-up.len_at_least c.value-item.is in
    let done = part_appended (step.Index c.loop-place.place) _ _ _ c.in_default-value_by.ensures.ok in
    let s = goes_on _ _ _ _ _ _ _ c.loop-place.invariant next done in
    subst (λ rest.
    SoFar (in_turn 0 (replicate c.args.count (item write)) c.args.values.now)
    (in_turn (c.loop-place.place + 1) (replicate (c.args.count - (c.loop-place.place + 1)) (item write)) rest)
    c.args.out.now.items c.value_by.new.out.items)
    (sym (tail_whole c.loop-place.rest.now)) s

pub members-returns-in-Err-clause-err : goal.members-returns-in-Err-clause-err
members-returns-in-Err-clause-err g t c =
    let ty = c.index-types-place.result in
    next_fails _ _ _ _ _ _ (error_of c.of_whole.new.steps.items c.of_whole.result) c.loop-place.invariant
    (next_part (λ part. item part.value) (part_within c.args.left (g.T.Definitions.table c.args.table.now)) c.loop-place.place
    c.args.types.now ty
    c.loop-place.rest.now c.value-item.result (omega arith) c.index-types-place.is c.in-len1-up.len_at_least c.value-item.is)
    (c.of_whole.ensures (value_within (c.args.left - 1) (g.T.Definitions.table c.args.table.now) ty.id c.value-item.result)
    c.in-Err.ensures.err)

pub fields-returns-then-ne-clause-err : goal.fields-returns-then-ne-clause-err
fields-returns-then-ne-clause-err g t c =
    let f = c.index-all-place.result in
    let named = c.named-item.result in
    let differs : option_eq bytes_eq f.name named.0 ≡ false = grind (arith, common_steps) in
    next_fails _ _ _ _ _ _ (error_of c.of_whole.new.steps.items c.of_whole.result) c.loop-place.invariant
    (next_part field (map_field {G = Unit {0}} (part_within c.args.left (g.T.Definitions.table c.args.table.now))
    (λ t. t)) c.loop-place.place
    c.args.all.now f c.loop-place.rest.now named (omega arith) c.index-all-place.is c.in-len1-up.len_at_least c.named-item.is)
    (subst (λ w. Fails w c.of_whole.new.steps.items c.of_whole.result)
    (sym (field_misnamed c.args.left (g.T.Definitions.table c.args.table.now) f c.loop-place.place named differs))
    (c.of_whole.ensures (refused mismatch) c.mismatch-failure.ensures))

pub fields-returns-in-Err-clause-err : goal.fields-returns-in-Err-clause-err
fields-returns-in-Err-clause-err g t c =
    let f = c.index-all-place.result in
    let named = c.named-item.result in
    let same : option_eq bytes_eq f.name named.0 ≡ true = grind (arith, common_steps) in
    next_fails _ _ _ _ _ _ (error_of c.of_whole-in-Err.new.steps.items c.of_whole-in-Err.result) c.loop-place.invariant
    (next_part field (map_field {G = Unit {0}} (part_within c.args.left (g.T.Definitions.table c.args.table.now))
    (λ t. t)) c.loop-place.place
    c.args.all.now f c.loop-place.rest.now named (omega arith) c.index-all-place.is c.in-len1-up.len_at_least c.named-item.is)
    (subst (λ w. Fails w c.of_whole-in-Err.new.steps.items c.of_whole-in-Err.result)
    (sym (field_named c.args.left (g.T.Definitions.table c.args.table.now) f c.loop-place.place named same))
    (c.of_whole-in-Err.ensures (value_within (c.args.left - 1) (g.T.Definitions.table c.args.table.now) f.ty.id named.1)
    c.in-Err.ensures.err))

pub pairs-returns-in-Err-clause-err : goal.pairs-returns-in-Err-clause-err
pairs-returns-in-Err-clause-err g t c =
    let write = pair_within c.args.left (g.T.Definitions.table c.args.table.now) c.args.key.now c.args.value.now in
    let entry = c.index-entries-place.result in
    next_fails _ _ _ _ _ _ (error_of c.of_whole.new.steps.items c.of_whole.result) c.loop-place.invariant
    (next_entry c.loop-place.place (item write) c.args.entries.now entry (omega arith) c.index-entries-place.is)
    (c.of_whole.ensures (write entry) c.in-Err.ensures.err)

pub pair-returns-in-Err-clause-err : goal.pair-returns-in-Err-clause-err
pair-returns-in-Err-clause-err g t c =
    let whole =
    pair_is c.args.left (g.T.Definitions.table c.args.table.now) c.args.key.now c.args.value.now c.args.entry.now
    c.saturating_sub-inner.result
    c.in-List.both c.as_slice.result.now c.first-item.result c.in-List.is c.as_slice.ensures c.saturating_sub-inner.ensures
    c.in-len1-up.len_at_least c.first-item.is in
    let write = value_within c.saturating_sub-inner.result (g.T.Definitions.table c.args.table.now) c.args.key.now.id in
    subst (λ w. Fails w c.of_whole.new.steps.items c.of_whole.result) (sym whole)
    (first_fails _ _ (error_of c.of_whole.new.steps.items c.of_whole.result) (c.of_whole.ensures
    (write c.first-item.result) c.in-Err.ensures.err))

pub pair-returns-in-Err-value_within-clause-err : goal.pair-returns-in-Err-value_within-clause-err
pair-returns-in-Err-value_within-clause-err g t c =
    let all = c.as_slice.result.now in
    let levels = c.saturating_sub-inner.result in
    let s =
    second_of_pair c.args.left (g.T.Definitions.table c.args.table.now) c.args.key.now c.args.value.now _ levels _ all (take
    (length all - 1) (drop 1 all))
    _ _ _ _ c.in-List.is c.as_slice.ensures c.saturating_sub-inner.ensures c.in-len1-up.len_at_least c.first-item.is
    refl c.in-len1-up-more.len_at_least c.second-item.is c.in_default-value_within.ensures.ok in
    next_fails _ _ _ _ _ _ (error_of c.of_whole-in-Err-value_within.new.steps.items c.of_whole-in-Err-value_within.result) s refl
    (c.of_whole-in-Err-value_within.ensures
    (value_within levels (g.T.Definitions.table c.args.table.now) c.args.value.now.id c.second-item.result)
    c.in-Err-value_within.ensures.err)

pub pair-returns-clause-ok : goal.pair-returns-clause-ok
pair-returns-clause-ok g t c =
    let all = c.as_slice.result.now in
    let rest = take (length all - 1) (drop 1 all) in
    let s =
    second_of_pair c.args.left (g.T.Definitions.table c.args.table.now) c.args.key.now c.args.value.now _ c.saturating_sub-inner.result _
    all rest
    _ _ _ _ c.in-List.is c.as_slice.ensures c.saturating_sub-inner.ensures c.in-len1-up.len_at_least c.first-item.is
    refl c.in-len1-up-more.len_at_least c.second-item.is c.in_default-value_within.ensures.ok in
    let both = goes_on _ _ _ _ _ _ _ s refl (part_appended (step.Index 1) _ _ _ c.in_default-value_within-2.ensures.ok) in
    let none : length (take (length rest - 1) (drop 1 rest)) ≡ 0 = grind (arith, common_steps) in
    ends _ _ _ _ _ both (record {
      encoding = [];
      encodes = none_left 2 rest none;
      parts = sym (append-nil c.value_within-2.new.out.items);
    })

pub variant_value-returns-in_default-variant_with_index-clause-err : goal.variant_value-returns-in_default-variant_with_index-clause-err
variant_value-returns-in_default-variant_with_index-clause-err g t c =
    let none : find (λ v. v.index == c.in-Variant.index) c.args.choice.now.variants ≡ None = grind (arith, common_steps) in
    subst (λ w. Fails w c.mismatch-in_default-variant_with_index.new.steps.items c.mismatch-in_default-variant_with_index.result)
    (sym (variant_missing c.args.left (g.T.Definitions.table c.args.table.now) c.args.choice.now c.args.value.now c.in-Variant.name
    c.in-Variant.index
    c.in-Variant.values c.in-Variant.is none))
    c.mismatch-in_default-variant_with_index.ensures

pub variant_value-returns-then-ne-clause-err : goal.variant_value-returns-then-ne-clause-err
variant_value-returns-then-ne-clause-err g t c =
    let some : find (λ v. v.index == c.in-Variant.index) c.args.choice.now.variants ≡ Some c.in-Some.variant.now =
    grind (arith, common_steps) in
    let differs : bytes_eq c.in-Some.variant.now.name c.in-Variant.name ≡ false = grind (arith, common_steps) in
    subst (λ w. Fails w c.mismatch-then-ne.new.steps.items c.mismatch-then-ne.result)
    (sym (variant_misnamed c.args.left (g.T.Definitions.table c.args.table.now) c.args.choice.now c.args.value.now c.in-Variant.name
    c.in-Variant.index
    c.in-Variant.values c.in-Some.variant.now c.in-Variant.is some differs))
    c.mismatch-then-ne.ensures

pub variant_value-returns : goal.variant_value-returns
variant_value-returns g t c =
    let some : find (λ v. v.index == c.in-Variant.index) c.args.choice.now.variants ≡ Some c.in-Some.variant.now =
    grind (arith, common_steps) in
    let same : bytes_eq c.in-Some.variant.now.name c.in-Variant.name ≡ true = grind (arith, common_steps) in
    let all =
    both c.fields.result _ _ _ _ _ c.fields.new.out.items
    (variant_named c.args.left (g.T.Definitions.table c.args.table.now) c.args.choice.now c.args.value.now c.in-Variant.name
    c.in-Variant.index
    c.in-Variant.values c.as_slice-3.result.now c.in-Some.variant.now c.as_slice-2.result.now
    c.in-Variant.is some same c.as_slice-2.ensures c.as_slice-3.ensures)
    (appended c.in-Variant.index _ _ c.in_ok-push.ensures.items) c.fields.new.steps.items c.fields.ensures.ok c.fields.ensures.err
    c.fields.ensures.kept in
    record { ok = all.0; err = all.1; kept = all.2 }
