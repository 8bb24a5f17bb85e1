use Rattle.std.proofs.Common.{length, ◌≡◌, ◌-◌, [], ◌∷◌, Some, None, true, false, find, ◌==◌, arith, ap, sym, ◌∙◌, replicate}
use Rattle.std.proofs.lemmas.Grind.{common_steps}
use Rattle.scale_info_types.specs.Portable.{Id}
use Rattle.scale_info_types.specs.declared.ty.TypeDef.TheVariants as def
use Rattle.scale_info_value_visit.specs.Events.{begin_list, end_list, begin_fields, end_fields, begin_of, end_of, field_of, names, all_named}
use Rattle.scale_info_value_visit.specs.Events.{definition_at, is_byte, pair_of, list_events, bytes, unsigned}
use Rattle.scale_info_value_visit.specs.Reads.{shows, with_value, followed_by, each, value_read, record_read, tuple_read, members_read, fields_read, field_read, list_read}
use Rattle.scale_info_value_visit.specs.Reads.{chosen_read, items_read, between}
use Rattle.scale_info_value_visit.proofs.OneLevel.{by_kind, by_this, compact_by, too_deep_read, barred_read, barred_list, free_list, empty_list}
use Rattle.scale_info_value_visit.proofs.Lists.{first_of}
use Rattle.scale_info_value_visit.proofs.Visiting.{starts, at_same, next_shown, next_refused, refused_within, part_shown, part_stops, comes, alone_comes}
use Rattle.scale_info_value_visit.proofs.Visiting.{ended, at_end, shown_as, fails_first, failure_passed, by_answer, next_of, all_left, none_left, none_of}
use Rattle.scale_info_value_visit.proofs.Visiting.{inside, at_last, past_last}
use Rattle.scale_info_value_visit.proofs.visit.+visit.Goals as goal

pub value_within-returns-in_err-definition : goal.value_within-returns-in_err-definition
value_within-returns-in_err-definition g t c =
    let table = g.T.Definitions.table c.args.table.now in
    failure_passed c.from_residual.result c.in_err-definition.field-0.0 (g.met.V.ValueVisitor.visited_none c.args.visitor.now) c.from_residual.ensures.1
    (barred_read c.args.left table (definition_at table c.args.id) c.args.input.now c.in_err-definition.field-0.0
    c.in_err-definition.ensures.barred)

pub value_within-returns : goal.value_within-returns
value_within-returns g t c =
    let table = g.T.Definitions.table c.args.table.now in
    shown_as (ap (λ d. value_read c.args.left table d c.args.input.now) c.in_ok-definition.ensures.found)
    c.value_by.ensures

pub value_by-returns-in-Composite : goal.value_by-returns-in-Composite
value_by-returns-in-Composite g t c =
    let table = g.T.Definitions.table c.args.table.now in
    let part = value_read (c.args.left - 1) table in
    shown_as
    (by_this c.args.left table c.args.definition.now (def.Composite c.in-Composite.composite) c.args.input.now c.requires c.in-Composite.is
    ∙ ap (λ l. record_read table part l c.args.input.now) (sym c.as_slice.ensures))
    c.record.ensures

pub value_by-returns-in-Variant : goal.value_by-returns-in-Variant
value_by-returns-in-Variant g t c =
    let table = g.T.Definitions.table c.args.table.now in
    shown_as
    (by_this c.args.left table c.args.definition.now (def.Variant c.in-Variant.choice) c.args.input.now c.requires c.in-Variant.is)
    c.variant.ensures

pub value_by-returns-in_ok-count-in-Sequence : goal.value_by-returns-in_ok-count-in-Sequence
value_by-returns-in_ok-count-in-Sequence g t c =
    let table = g.T.Definitions.table c.args.table.now in
    let part = value_read (c.args.left - 1) table in
    shown_as
    (by_this c.args.left table c.args.definition.now (def.Sequence c.in-Sequence.sequence) c.args.input.now c.requires c.in-Sequence.is
    ∙ ap (λ o. with_value o (λ n rest. list_read (c.args.left - 1) part (definition_at table c.in-Sequence.sequence.type_param.id) n rest))
    c.in_ok-count-in-Sequence.ensures.ok)
    c.list.ensures

pub value_by-returns-in-Array : goal.value_by-returns-in-Array
value_by-returns-in-Array g t c =
    let table = g.T.Definitions.table c.args.table.now in
    shown_as
    (by_this c.args.left table c.args.definition.now (def.Array c.in-Array.array) c.args.input.now c.requires c.in-Array.is)
    c.list-in-Array.ensures

pub value_by-returns-in-Tuple : goal.value_by-returns-in-Tuple
value_by-returns-in-Tuple g t c =
    let table = g.T.Definitions.table c.args.table.now in
    let part = value_read (c.args.left - 1) table in
    shown_as
    (by_this c.args.left table c.args.definition.now (def.Tuple c.in-Tuple.tuple) c.args.input.now c.requires c.in-Tuple.is
    ∙ ap (λ l. tuple_read table part l c.args.input.now) (sym c.as_slice-in-Tuple.ensures))
    c.members.ensures

pub value_by-returns-in-Primitive : goal.value_by-returns-in-Primitive
value_by-returns-in-Primitive g t c =
    let table = g.T.Definitions.table c.args.table.now in
    shown_as
    (by_this c.args.left table c.args.definition.now (def.Primitive c.in-Primitive.kind) c.args.input.now c.requires c.in-Primitive.is)
    c.primitive.ensures

pub value_by-returns-in_ok-shown-in-Compact : goal.value_by-returns-in_ok-shown-in-Compact
value_by-returns-in_ok-shown-in-Compact g t c =
    let table = g.T.Definitions.table c.args.table.now in
    ended (next_shown g.met.V.ValueVisitor.visited_append
    (at_same (compact_by c.args.left table c.args.definition.now c.in-Compact.inner c.args.input.now c.requires c.in-Compact.is
    ∙ ap (λ o. with_value o (λ n rest. shows (unsigned n ∷ []) rest)) c.in_ok-integer-in-Compact.ensures.ok)
    (starts _ (g.met.V.ValueVisitor.visited_none c.args.visitor.now)))
    (by_answer _ c.in_ok-shown-in-Compact.ensures.ok c.unsigned.ensures.ok))

pub value_by-returns-in_err-integer-in-Compact : goal.value_by-returns-in_err-integer-in-Compact
value_by-returns-in_err-integer-in-Compact g t c =
    let table = g.T.Definitions.table c.args.table.now in
    failure_passed c.from_residual-in_err-integer-in-Compact.result c.in_err-integer-in-Compact.field-0.0 (g.met.V.ValueVisitor.visited_none c.args.visitor.now)
    c.from_residual-in_err-integer-in-Compact.ensures.1
    (compact_by c.args.left table c.args.definition.now c.in-Compact.inner c.args.input.now c.requires c.in-Compact.is
    ∙ ap (λ o. with_value o (λ n rest. shows (unsigned n ∷ []) rest)) c.in_err-integer-in-Compact.ensures.err)

pub value_by-returns-in_err-shown-in-Compact : goal.value_by-returns-in_err-shown-in-Compact
value_by-returns-in_err-shown-in-Compact g t c =
    let table = g.T.Definitions.table c.args.table.now in
    next_refused (unsigned c.in_ok-integer-in-Compact.integer ∷ []) (shows [] c.in_ok-integer-in-Compact.rest.now) _ c.from_residual-in_err-shown-in-Compact.result c.in_err-shown-in-Compact.field-0.0 c.unsigned.result
    g.met.V.ValueVisitor.visited_append g.met.V.ValueVisitor.stopped_later c.from_residual-in_err-shown-in-Compact.ensures.1 c.in_err-shown-in-Compact.ensures.err
    (at_same (compact_by c.args.left table c.args.definition.now c.in-Compact.inner c.args.input.now c.requires c.in-Compact.is
    ∙ ap (λ o. with_value o (λ n rest. shows (unsigned n ∷ []) rest)) c.in_ok-integer-in-Compact.ensures.ok)
    (starts _ (g.met.V.ValueVisitor.visited_none c.args.visitor.now)))
    c.unsigned.ensures.err

pub value_by-returns-in_ok-count-in-Map : goal.value_by-returns-in_ok-count-in-Map
value_by-returns-in_ok-count-in-Map g t c =
    let table = g.T.Definitions.table c.args.table.now in
    let part = value_read (c.args.left - 1) table in
    shown_as
    (by_this c.args.left table c.args.definition.now (def.Map c.in-Map.map) c.args.input.now c.requires c.in-Map.is
    ∙ ap (λ o. with_value o
    (λ n rest. between (begin_list n) (each (replicate n (part (Some (pair_of c.in-Map.map.key c.in-Map.map.value))))) end_list rest))
    c.in_ok-count-in-Map.ensures.ok)
    c.pairs.ensures

pub value_by-returns-in_err-count-in-Sequence : goal.value_by-returns-in_err-count-in-Sequence
value_by-returns-in_err-count-in-Sequence g t c =
    let table = g.T.Definitions.table c.args.table.now in
    let part = value_read (c.args.left - 1) table in
    failure_passed c.from_residual.result c.in_err-count-in-Sequence.field-0.0 (g.met.V.ValueVisitor.visited_none c.args.visitor.now) c.from_residual.ensures.1
    (by_this c.args.left table c.args.definition.now (def.Sequence c.in-Sequence.sequence) c.args.input.now c.requires c.in-Sequence.is
    ∙ ap (λ o. with_value o (λ n rest. list_read (c.args.left - 1) part (definition_at table c.in-Sequence.sequence.type_param.id) n rest))
    c.in_err-count-in-Sequence.ensures.err)

pub value_by-returns-in_err-count-in-Map : goal.value_by-returns-in_err-count-in-Map
value_by-returns-in_err-count-in-Map g t c =
    let table = g.T.Definitions.table c.args.table.now in
    let part = value_read (c.args.left - 1) table in
    failure_passed c.from_residual-in_err-count-in-Map.result c.in_err-count-in-Map.field-0.0 (g.met.V.ValueVisitor.visited_none c.args.visitor.now)
    c.from_residual-in_err-count-in-Map.ensures.1
    (by_this c.args.left table c.args.definition.now (def.Map c.in-Map.map) c.args.input.now c.requires c.in-Map.is
    ∙ ap (λ o. with_value o
    (λ n rest. between (begin_list n) (each (replicate n (part (Some (pair_of c.in-Map.map.key c.in-Map.map.value))))) end_list rest))
    c.in_err-count-in-Map.ensures.err)

pub value_by-returns-in-BitSequence : goal.value_by-returns-in-BitSequence
value_by-returns-in-BitSequence g t c =
    let table = g.T.Definitions.table c.args.table.now in
    fails_first (g.met.V.ValueVisitor.visited_none c.args.visitor.now)
    (by_this c.args.left table c.args.definition.now _ c.args.input.now c.requires c.in-BitSequence.is)

pub variant-returns-in-None : goal.variant-returns-in-None
variant-returns-in-None g t c =
    let table = g.T.Definitions.table c.args.table.now in
    let part = value_read (c.args.left - 1) table in
    let none : find (λ v. v.index == c.in_ok-index.index) c.args.choice.now.variants ≡ None = grind (arith, common_steps) in
    fails_first (g.met.V.ValueVisitor.visited_none c.args.visitor.now)
    (ap (λ o. with_value o
    (λ index rest. chosen_read table part c.args.choice.now.variants (find (λ v. v.index == index) c.args.choice.now.variants) rest)) c.in_ok-index.ensures.ok
    ∙ ap (λ o. chosen_read table part c.args.choice.now.variants o c.in_ok-index.rest.now) none)

pub variant-returns-in-Some : goal.variant-returns-in-Some
variant-returns-in-Some g t c =
    let table = g.T.Definitions.table c.args.table.now in
    let part = value_read (c.args.left - 1) table in
    let some : find (λ v. v.index == c.in_ok-index.index) c.args.choice.now.variants ≡ Some c.in-Some.variant.now =
    grind (arith, common_steps) in
    shown_as
    (ap (λ o. with_value o
    (λ index rest. chosen_read table part c.args.choice.now.variants (find (λ v. v.index == index) c.args.choice.now.variants) rest)) c.in_ok-index.ensures.ok
    ∙ ap (λ o. chosen_read table part c.args.choice.now.variants o c.in_ok-index.rest.now) some)
    (rw c.as_slice-variants.ensures at c.chosen.ensures)

pub variant-returns-in_err-index : goal.variant-returns-in_err-index
variant-returns-in_err-index g t c =
    let table = g.T.Definitions.table c.args.table.now in
    let part = value_read (c.args.left - 1) table in
    failure_passed c.from_residual.result c.in_err-index.field-0.0 (g.met.V.ValueVisitor.visited_none c.args.visitor.now) c.from_residual.ensures.1
    (ap (λ o. with_value o
    (λ index rest. chosen_read table part c.args.choice.now.variants (find (λ v. v.index == index) c.args.choice.now.variants) rest)) c.in_err-index.ensures.err)

pub record-returns : goal.record-returns
record-returns g t c =
    let table = g.T.Definitions.table c.args.table.now in
    let part = value_read (c.args.left - 1) table in
    past_last (begin_fields c.args.all.now) (end_fields c.args.all.now) (fields_read table part (all_named (names c.args.all.now)) c.args.all.now) c.args.input.now g.met.V.ValueVisitor.visited_append (g.met.V.ValueVisitor.visited_none c.args.visitor.now)
    (by_answer _ c.in_ok-shown.ensures.ok c.begin_record.ensures.ok)
    (rw c.all_named.ensures at c.in_ok-rest.ensures)
    (by_answer _ c.in_ok-shown-2.ensures.ok c.end_record.ensures.ok)

pub record-returns-in_err-shown : goal.record-returns-in_err-shown
record-returns-in_err-shown g t c =
    let table = g.T.Definitions.table c.args.table.now in
    let part = value_read (c.args.left - 1) table in
    next_refused (begin_fields c.args.all.now ∷ []) (followed_by (fields_read table part (all_named (names c.args.all.now)) c.args.all.now c.args.input.now) (shows (end_fields c.args.all.now ∷ []))) _ c.from_residual.result c.in_err-shown.field-0.0 c.begin_record.result g.met.V.ValueVisitor.visited_append g.met.V.ValueVisitor.stopped_later
    c.from_residual.ensures.1 c.in_err-shown.ensures.err
    (starts (between (begin_fields c.args.all.now) (fields_read table part (all_named (names c.args.all.now)) c.args.all.now) (end_fields c.args.all.now) c.args.input.now) (g.met.V.ValueVisitor.visited_none c.args.visitor.now))
    c.begin_record.ensures.err

pub record-returns-in_err-rest : goal.record-returns-in_err-rest
record-returns-in_err-rest g t c =
    let table = g.T.Definitions.table c.args.table.now in
    let part = value_read (c.args.left - 1) table in
    part_stops _ c.from_residual-in_err-rest.result c.in_err-rest.field-0.0 g.met.V.ValueVisitor.visited_append g.met.V.ValueVisitor.stopped_later
    c.from_residual-in_err-rest.ensures.1
    (inside (begin_fields c.args.all.now) (end_fields c.args.all.now) (fields_read table part (all_named (names c.args.all.now)) c.args.all.now) c.args.input.now g.met.V.ValueVisitor.visited_append (g.met.V.ValueVisitor.visited_none c.args.visitor.now)
    (by_answer _ c.in_ok-shown.ensures.ok c.begin_record.ensures.ok))
    (rw c.all_named.ensures at c.in_err-rest.ensures)

pub record-returns-in_err-shown-2 : goal.record-returns-in_err-shown-2
record-returns-in_err-shown-2 g t c =
    let table = g.T.Definitions.table c.args.table.now in
    let part = value_read (c.args.left - 1) table in
    next_refused (end_fields c.args.all.now ∷ []) (shows [] c.in_ok-rest.rest.now) _ c.from_residual-in_err-shown-2.result c.in_err-shown-2.field-0.0 c.end_record.result g.met.V.ValueVisitor.visited_append g.met.V.ValueVisitor.stopped_later
    c.from_residual-in_err-shown-2.ensures.1 c.in_err-shown-2.ensures.err
    (at_last (begin_fields c.args.all.now) (end_fields c.args.all.now) (fields_read table part (all_named (names c.args.all.now)) c.args.all.now) c.args.input.now g.met.V.ValueVisitor.visited_append (g.met.V.ValueVisitor.visited_none c.args.visitor.now)
    (by_answer _ c.in_ok-shown.ensures.ok c.begin_record.ensures.ok)
    (rw c.all_named.ensures at c.in_ok-rest.ensures))
    c.end_record.ensures.err

pub chosen-returns : goal.chosen-returns
chosen-returns g t c =
    let table = g.T.Definitions.table c.args.table.now in
    let part = value_read (c.args.left - 1) table in
    past_last (begin_of c.args.choice.now c.args.variant.now) (end_of c.args.choice.now c.args.variant.now) (fields_read table part (all_named (names c.args.variant.now.fields)) c.args.variant.now.fields) c.args.input.now g.met.V.ValueVisitor.visited_append (g.met.V.ValueVisitor.visited_none c.args.visitor.now)
    (by_answer _ c.in_ok-shown.ensures.ok c.begin_variant.ensures.ok)
    (rw (c.all_named.ensures, c.as_slice-all.ensures) at c.in_ok-rest.ensures)
    (by_answer _ c.in_ok-shown-2.ensures.ok c.end_variant.ensures.ok)

pub chosen-returns-in_err-shown : goal.chosen-returns-in_err-shown
chosen-returns-in_err-shown g t c =
    let table = g.T.Definitions.table c.args.table.now in
    let part = value_read (c.args.left - 1) table in
    next_refused (begin_of c.args.choice.now c.args.variant.now ∷ []) (followed_by (fields_read table part (all_named (names c.args.variant.now.fields)) c.args.variant.now.fields c.args.input.now) (shows (end_of c.args.choice.now c.args.variant.now ∷ []))) _ c.from_residual.result c.in_err-shown.field-0.0 c.begin_variant.result g.met.V.ValueVisitor.visited_append g.met.V.ValueVisitor.stopped_later
    c.from_residual.ensures.1 c.in_err-shown.ensures.err
    (starts (between (begin_of c.args.choice.now c.args.variant.now) (fields_read table part (all_named (names c.args.variant.now.fields)) c.args.variant.now.fields) (end_of c.args.choice.now c.args.variant.now) c.args.input.now) (g.met.V.ValueVisitor.visited_none c.args.visitor.now))
    c.begin_variant.ensures.err

pub chosen-returns-in_err-rest : goal.chosen-returns-in_err-rest
chosen-returns-in_err-rest g t c =
    let table = g.T.Definitions.table c.args.table.now in
    let part = value_read (c.args.left - 1) table in
    part_stops _ c.from_residual-in_err-rest.result c.in_err-rest.field-0.0 g.met.V.ValueVisitor.visited_append g.met.V.ValueVisitor.stopped_later
    c.from_residual-in_err-rest.ensures.1
    (inside (begin_of c.args.choice.now c.args.variant.now) (end_of c.args.choice.now c.args.variant.now) (fields_read table part (all_named (names c.args.variant.now.fields)) c.args.variant.now.fields) c.args.input.now g.met.V.ValueVisitor.visited_append (g.met.V.ValueVisitor.visited_none c.args.visitor.now)
    (by_answer _ c.in_ok-shown.ensures.ok c.begin_variant.ensures.ok))
    (rw (c.all_named.ensures, c.as_slice-all.ensures) at c.in_err-rest.ensures)

pub chosen-returns-in_err-shown-2 : goal.chosen-returns-in_err-shown-2
chosen-returns-in_err-shown-2 g t c =
    let table = g.T.Definitions.table c.args.table.now in
    let part = value_read (c.args.left - 1) table in
    next_refused (end_of c.args.choice.now c.args.variant.now ∷ []) (shows [] c.in_ok-rest.rest.now) _ c.from_residual-in_err-shown-2.result c.in_err-shown-2.field-0.0 c.end_variant.result g.met.V.ValueVisitor.visited_append g.met.V.ValueVisitor.stopped_later
    c.from_residual-in_err-shown-2.ensures.1 c.in_err-shown-2.ensures.err
    (at_last (begin_of c.args.choice.now c.args.variant.now) (end_of c.args.choice.now c.args.variant.now) (fields_read table part (all_named (names c.args.variant.now.fields)) c.args.variant.now.fields) c.args.input.now g.met.V.ValueVisitor.visited_append (g.met.V.ValueVisitor.visited_none c.args.visitor.now)
    (by_answer _ c.in_ok-shown.ensures.ok c.begin_variant.ensures.ok)
    (rw (c.all_named.ensures, c.as_slice-all.ensures) at c.in_ok-rest.ensures))
    c.end_variant.ensures.err

pub members-returns : goal.members-returns
members-returns g t c =
    let table = g.T.Definitions.table c.args.table.now in
    let part = value_read (c.args.left - 1) table in
    past_last (begin_list (length c.args.types.now)) end_list (members_read table part c.args.types.now) c.args.input.now g.met.V.ValueVisitor.visited_append (g.met.V.ValueVisitor.visited_none c.args.visitor.now)
    (by_answer _ c.in_ok-shown.ensures.ok c.begin_list.ensures.ok)
    c.in_ok-rest.ensures
    (by_answer _ c.in_ok-shown-2.ensures.ok c.end_list.ensures.ok)

pub members-returns-in_err-shown : goal.members-returns-in_err-shown
members-returns-in_err-shown g t c =
    let table = g.T.Definitions.table c.args.table.now in
    let part = value_read (c.args.left - 1) table in
    next_refused (begin_list (length c.args.types.now) ∷ []) (followed_by (members_read table part c.args.types.now c.args.input.now) (shows (end_list ∷ []))) _ c.from_residual.result c.in_err-shown.field-0.0 c.begin_list.result g.met.V.ValueVisitor.visited_append g.met.V.ValueVisitor.stopped_later
    c.from_residual.ensures.1 c.in_err-shown.ensures.err
    (starts (between (begin_list (length c.args.types.now)) (members_read table part c.args.types.now) end_list c.args.input.now) (g.met.V.ValueVisitor.visited_none c.args.visitor.now))
    c.begin_list.ensures.err

pub members-returns-in_err-rest : goal.members-returns-in_err-rest
members-returns-in_err-rest g t c =
    let table = g.T.Definitions.table c.args.table.now in
    let part = value_read (c.args.left - 1) table in
    part_stops _ c.from_residual-in_err-rest.result c.in_err-rest.field-0.0 g.met.V.ValueVisitor.visited_append g.met.V.ValueVisitor.stopped_later
    c.from_residual-in_err-rest.ensures.1
    (inside (begin_list (length c.args.types.now)) end_list (members_read table part c.args.types.now) c.args.input.now g.met.V.ValueVisitor.visited_append (g.met.V.ValueVisitor.visited_none c.args.visitor.now)
    (by_answer _ c.in_ok-shown.ensures.ok c.begin_list.ensures.ok))
    c.in_err-rest.ensures

pub members-returns-in_err-shown-2 : goal.members-returns-in_err-shown-2
members-returns-in_err-shown-2 g t c =
    let table = g.T.Definitions.table c.args.table.now in
    let part = value_read (c.args.left - 1) table in
    next_refused (end_list ∷ []) (shows [] c.in_ok-rest.rest.now) _ c.from_residual-in_err-shown-2.result c.in_err-shown-2.field-0.0 c.end_list.result g.met.V.ValueVisitor.visited_append g.met.V.ValueVisitor.stopped_later
    c.from_residual-in_err-shown-2.ensures.1 c.in_err-shown-2.ensures.err
    (at_last (begin_list (length c.args.types.now)) end_list (members_read table part c.args.types.now) c.args.input.now g.met.V.ValueVisitor.visited_append (g.met.V.ValueVisitor.visited_none c.args.visitor.now)
    (by_answer _ c.in_ok-shown.ensures.ok c.begin_list.ensures.ok)
    c.in_ok-rest.ensures)
    c.end_list.ensures.err

pub pairs-returns : goal.pairs-returns
pairs-returns g t c =
    let table = g.T.Definitions.table c.args.table.now in
    past_last (begin_list c.args.count) end_list (each (replicate c.args.count (value_read (c.args.left - 1) (g.T.Definitions.table c.args.table.now) (Some (pair_of c.args.key.now c.args.value.now))))) c.args.input.now g.met.V.ValueVisitor.visited_append (g.met.V.ValueVisitor.visited_none c.args.visitor.now)
    (by_answer _ c.in_ok-shown.ensures.ok c.begin_list.ensures.ok)
    c.in_ok-rest.ensures
    (by_answer _ c.in_ok-shown-2.ensures.ok c.end_list.ensures.ok)

pub pairs-returns-in_err-shown : goal.pairs-returns-in_err-shown
pairs-returns-in_err-shown g t c =
    let table = g.T.Definitions.table c.args.table.now in
    next_refused (begin_list c.args.count ∷ []) (followed_by (each (replicate c.args.count (value_read (c.args.left - 1) (g.T.Definitions.table c.args.table.now) (Some (pair_of c.args.key.now c.args.value.now)))) c.args.input.now) (shows (end_list ∷ []))) _ c.from_residual.result c.in_err-shown.field-0.0 c.begin_list.result g.met.V.ValueVisitor.visited_append g.met.V.ValueVisitor.stopped_later
    c.from_residual.ensures.1 c.in_err-shown.ensures.err
    (starts (between (begin_list c.args.count) (each (replicate c.args.count (value_read (c.args.left - 1) (g.T.Definitions.table c.args.table.now) (Some (pair_of c.args.key.now c.args.value.now))))) end_list c.args.input.now) (g.met.V.ValueVisitor.visited_none c.args.visitor.now))
    c.begin_list.ensures.err

pub pairs-returns-in_err-rest : goal.pairs-returns-in_err-rest
pairs-returns-in_err-rest g t c =
    let table = g.T.Definitions.table c.args.table.now in
    part_stops _ c.from_residual-in_err-rest.result c.in_err-rest.field-0.0 g.met.V.ValueVisitor.visited_append g.met.V.ValueVisitor.stopped_later
    c.from_residual-in_err-rest.ensures.1
    (inside (begin_list c.args.count) end_list (each (replicate c.args.count (value_read (c.args.left - 1) (g.T.Definitions.table c.args.table.now) (Some (pair_of c.args.key.now c.args.value.now))))) c.args.input.now g.met.V.ValueVisitor.visited_append (g.met.V.ValueVisitor.visited_none c.args.visitor.now)
    (by_answer _ c.in_ok-shown.ensures.ok c.begin_list.ensures.ok))
    c.in_err-rest.ensures

pub pairs-returns-in_err-shown-2 : goal.pairs-returns-in_err-shown-2
pairs-returns-in_err-shown-2 g t c =
    let table = g.T.Definitions.table c.args.table.now in
    next_refused (end_list ∷ []) (shows [] c.in_ok-rest.rest.now) _ c.from_residual-in_err-shown-2.result c.in_err-shown-2.field-0.0 c.end_list.result g.met.V.ValueVisitor.visited_append g.met.V.ValueVisitor.stopped_later
    c.from_residual-in_err-shown-2.ensures.1 c.in_err-shown-2.ensures.err
    (at_last (begin_list c.args.count) end_list (each (replicate c.args.count (value_read (c.args.left - 1) (g.T.Definitions.table c.args.table.now) (Some (pair_of c.args.key.now c.args.value.now))))) c.args.input.now g.met.V.ValueVisitor.visited_append (g.met.V.ValueVisitor.visited_none c.args.visitor.now)
    (by_answer _ c.in_ok-shown.ensures.ok c.begin_list.ensures.ok)
    c.in_ok-rest.ensures)
    c.end_list.ensures.err

pub list_of_items-returns : goal.list_of_items-returns
list_of_items-returns g t c =
    let table = g.T.Definitions.table c.args.table.now in
    past_last (begin_list c.args.count) end_list (each (replicate c.args.count (value_read c.args.left (g.T.Definitions.table c.args.table.now) (Some c.args.definition.now)))) c.args.input.now g.met.V.ValueVisitor.visited_append (g.met.V.ValueVisitor.visited_none c.args.visitor.now)
    (by_answer _ c.in_ok-shown.ensures.ok c.begin_list.ensures.ok)
    c.in_ok-rest.ensures
    (by_answer _ c.in_ok-shown-2.ensures.ok c.end_list.ensures.ok)

pub list_of_items-returns-in_err-shown : goal.list_of_items-returns-in_err-shown
list_of_items-returns-in_err-shown g t c =
    let table = g.T.Definitions.table c.args.table.now in
    next_refused (begin_list c.args.count ∷ []) (followed_by (each (replicate c.args.count (value_read c.args.left (g.T.Definitions.table c.args.table.now) (Some c.args.definition.now))) c.args.input.now) (shows (end_list ∷ []))) _ c.from_residual.result c.in_err-shown.field-0.0 c.begin_list.result g.met.V.ValueVisitor.visited_append g.met.V.ValueVisitor.stopped_later
    c.from_residual.ensures.1 c.in_err-shown.ensures.err
    (starts (between (begin_list c.args.count) (each (replicate c.args.count (value_read c.args.left (g.T.Definitions.table c.args.table.now) (Some c.args.definition.now)))) end_list c.args.input.now) (g.met.V.ValueVisitor.visited_none c.args.visitor.now))
    c.begin_list.ensures.err

pub list_of_items-returns-in_err-rest : goal.list_of_items-returns-in_err-rest
list_of_items-returns-in_err-rest g t c =
    let table = g.T.Definitions.table c.args.table.now in
    part_stops _ c.from_residual-in_err-rest.result c.in_err-rest.field-0.0 g.met.V.ValueVisitor.visited_append g.met.V.ValueVisitor.stopped_later
    c.from_residual-in_err-rest.ensures.1
    (inside (begin_list c.args.count) end_list (each (replicate c.args.count (value_read c.args.left (g.T.Definitions.table c.args.table.now) (Some c.args.definition.now)))) c.args.input.now g.met.V.ValueVisitor.visited_append (g.met.V.ValueVisitor.visited_none c.args.visitor.now)
    (by_answer _ c.in_ok-shown.ensures.ok c.begin_list.ensures.ok))
    c.in_err-rest.ensures

pub list_of_items-returns-in_err-shown-2 : goal.list_of_items-returns-in_err-shown-2
list_of_items-returns-in_err-shown-2 g t c =
    let table = g.T.Definitions.table c.args.table.now in
    next_refused (end_list ∷ []) (shows [] c.in_ok-rest.rest.now) _ c.from_residual-in_err-shown-2.result c.in_err-shown-2.field-0.0 c.end_list.result g.met.V.ValueVisitor.visited_append g.met.V.ValueVisitor.stopped_later
    c.from_residual-in_err-shown-2.ensures.1 c.in_err-shown-2.ensures.err
    (at_last (begin_list c.args.count) end_list (each (replicate c.args.count (value_read c.args.left (g.T.Definitions.table c.args.table.now) (Some c.args.definition.now)))) c.args.input.now g.met.V.ValueVisitor.visited_append (g.met.V.ValueVisitor.visited_none c.args.visitor.now)
    (by_answer _ c.in_ok-shown.ensures.ok c.begin_list.ensures.ok)
    c.in_ok-rest.ensures)
    c.end_list.ensures.err

pub pair-returns : goal.pair-returns
pair-returns g t c =
    let table = g.T.Definitions.table c.args.table.now in
    let part = value_read (c.args.left - 1) table in
    shown_as (by_kind c.args.left table (pair_of c.args.key.now c.args.value.now) c.args.input.now (omega arith))
    (past_last (begin_list 2) end_list (members_read table part (c.args.key.now ∷ c.args.value.now ∷ [])) c.args.input.now g.met.V.ValueVisitor.visited_append (g.met.V.ValueVisitor.visited_none c.args.visitor.now)
    (by_answer _ c.in_ok-shown.ensures.ok c.begin_list.ensures.ok)
    c.in_ok-rest.ensures
    (by_answer _ c.in_ok-shown-2.ensures.ok c.end_list.ensures.ok))

pub pair-returns-in_err-shown : goal.pair-returns-in_err-shown
pair-returns-in_err-shown g t c =
    let table = g.T.Definitions.table c.args.table.now in
    let part = value_read (c.args.left - 1) table in
    shown_as (by_kind c.args.left table (pair_of c.args.key.now c.args.value.now) c.args.input.now (omega arith))
    (next_refused (begin_list 2 ∷ []) (followed_by (members_read table part (c.args.key.now ∷ c.args.value.now ∷ []) c.args.input.now) (shows (end_list ∷ []))) _ c.from_residual.result c.in_err-shown.field-0.0 c.begin_list.result g.met.V.ValueVisitor.visited_append g.met.V.ValueVisitor.stopped_later
    c.from_residual.ensures.1 c.in_err-shown.ensures.err
    (starts (between (begin_list 2) (members_read table part (c.args.key.now ∷ c.args.value.now ∷ [])) end_list c.args.input.now) (g.met.V.ValueVisitor.visited_none c.args.visitor.now))
    c.begin_list.ensures.err)

pub pair-returns-in_err-rest : goal.pair-returns-in_err-rest
pair-returns-in_err-rest g t c =
    let table = g.T.Definitions.table c.args.table.now in
    let part = value_read (c.args.left - 1) table in
    shown_as (by_kind c.args.left table (pair_of c.args.key.now c.args.value.now) c.args.input.now (omega arith))
    (part_stops _ c.from_residual-in_err-rest.result c.in_err-rest.field-0.0 g.met.V.ValueVisitor.visited_append g.met.V.ValueVisitor.stopped_later
    c.from_residual-in_err-rest.ensures.1
    (inside (begin_list 2) end_list (members_read table part (c.args.key.now ∷ c.args.value.now ∷ [])) c.args.input.now g.met.V.ValueVisitor.visited_append (g.met.V.ValueVisitor.visited_none c.args.visitor.now)
    (by_answer _ c.in_ok-shown.ensures.ok c.begin_list.ensures.ok))
    c.in_err-rest.ensures)

pub pair-returns-in_err-shown-2 : goal.pair-returns-in_err-shown-2
pair-returns-in_err-shown-2 g t c =
    let table = g.T.Definitions.table c.args.table.now in
    let part = value_read (c.args.left - 1) table in
    shown_as (by_kind c.args.left table (pair_of c.args.key.now c.args.value.now) c.args.input.now (omega arith))
    (next_refused (end_list ∷ []) (shows [] c.in_ok-rest.rest.now) _ c.from_residual-in_err-shown-2.result c.in_err-shown-2.field-0.0 c.end_list.result g.met.V.ValueVisitor.visited_append g.met.V.ValueVisitor.stopped_later
    c.from_residual-in_err-shown-2.ensures.1 c.in_err-shown-2.ensures.err
    (at_last (begin_list 2) end_list (members_read table part (c.args.key.now ∷ c.args.value.now ∷ [])) c.args.input.now g.met.V.ValueVisitor.visited_append (g.met.V.ValueVisitor.visited_none c.args.visitor.now)
    (by_answer _ c.in_ok-shown.ensures.ok c.begin_list.ensures.ok)
    c.in_ok-rest.ensures)
    c.end_list.ensures.err)

pub pair-returns-then-left-eq0 : goal.pair-returns-then-left-eq0
pair-returns-then-left-eq0 g t c =
    let table = g.T.Definitions.table c.args.table.now in
    fails_first (g.met.V.ValueVisitor.visited_none c.args.visitor.now)
    (too_deep_read c.args.left table (Some (pair_of c.args.key.now c.args.value.now)) c.args.input.now c.if-left-eq0.true)

pub items-loop-init : goal.items-loop-init
items-loop-init g t c =
    all_left c.args.count (value_read c.args.left (g.T.Definitions.table c.args.table.now) (Some c.args.definition.now)) c.args.input.now (g.met.V.ValueVisitor.visited_none c.args.visitor.now)

pub items-loop-preserved : goal.items-loop-preserved
items-loop-preserved g t c =
    part_shown _ g.met.V.ValueVisitor.visited_append
    (next_of c.args.count c.loop.counter (value_read c.args.left (g.T.Definitions.table c.args.table.now) (Some c.args.definition.now)) c.loop.rest.now c.loop-test.true c.loop.invariant)
    c.in_ok-rest.ensures

pub items-returns-in_err-rest : goal.items-returns-in_err-rest
items-returns-in_err-rest g t c =
    part_stops _ c.from_residual.result c.in_err-rest.field-0.0 g.met.V.ValueVisitor.visited_append g.met.V.ValueVisitor.stopped_later c.from_residual.ensures.1
    (next_of c.args.count c.loop.counter (value_read c.args.left (g.T.Definitions.table c.args.table.now) (Some c.args.definition.now)) c.loop.rest.now c.loop-test.true c.loop.invariant)
    c.in_err-rest.ensures

pub items-returns : goal.items-returns
items-returns g t c =
    none_left c.args.count c.loop.counter (value_read c.args.left (g.T.Definitions.table c.args.table.now) (Some c.args.definition.now)) c.loop-test.false c.loop.invariant

pub each_pair-loop-init : goal.each_pair-loop-init
each_pair-loop-init g t c =
    all_left c.args.count (value_read (c.args.left - 1) (g.T.Definitions.table c.args.table.now) (Some (pair_of c.args.key.now c.args.value.now))) c.args.input.now (g.met.V.ValueVisitor.visited_none c.args.visitor.now)

pub each_pair-loop-preserved : goal.each_pair-loop-preserved
each_pair-loop-preserved g t c =
    part_shown _ g.met.V.ValueVisitor.visited_append
    (next_of c.args.count c.loop.counter (value_read (c.args.left - 1) (g.T.Definitions.table c.args.table.now) (Some (pair_of c.args.key.now c.args.value.now))) c.loop.rest.now c.loop-test.true c.loop.invariant)
    c.in_ok-rest.ensures

pub each_pair-returns-in_err-rest : goal.each_pair-returns-in_err-rest
each_pair-returns-in_err-rest g t c =
    part_stops _ c.from_residual.result c.in_err-rest.field-0.0 g.met.V.ValueVisitor.visited_append g.met.V.ValueVisitor.stopped_later c.from_residual.ensures.1
    (next_of c.args.count c.loop.counter (value_read (c.args.left - 1) (g.T.Definitions.table c.args.table.now) (Some (pair_of c.args.key.now c.args.value.now))) c.loop.rest.now c.loop-test.true c.loop.invariant)
    c.in_err-rest.ensures

pub each_pair-returns : goal.each_pair-returns
each_pair-returns g t c =
    none_left c.args.count c.loop.counter (value_read (c.args.left - 1) (g.T.Definitions.table c.args.table.now) (Some (pair_of c.args.key.now c.args.value.now))) c.loop-test.false c.loop.invariant

pub items-returns-in-Primitive : goal.items-returns-in-Primitive
items-returns-in-Primitive g t c =
    let table = g.T.Definitions.table c.args.table.now in
    shown_as
    (ap (λ read. each (replicate c.args.count read) c.args.input.now)
    (λ i input. by_this c.args.left table c.args.definition.now (def.Primitive c.in-Primitive.kind) input c.requires c.in-Primitive.is i))
    c.primitives.ensures

pub each_member-returns : goal.each_member-returns
each_member-returns g t c =
    let table = g.T.Definitions.table c.args.table.now in
    let part = value_read (c.args.left - 1) table in
    none_of (λ (t : Id). part (definition_at table t.id)) c.args.types.now c.loop-ty.ty-index c.loop-ty-test.false c.loop-ty.invariant

pub fields-returns : goal.fields-returns
fields-returns g t c =
    let table = g.T.Definitions.table c.args.table.now in
    let part = value_read (c.args.left - 1) table in
    none_of (field_read table part c.args.named) c.args.all.now c.loop-next.next-index c.loop-next-test.false c.loop-next.invariant

pub each_member-loop-ty-preserved : goal.each_member-loop-ty-preserved
each_member-loop-ty-preserved g t c =
    let table = g.T.Definitions.table c.args.table.now in
    let part = value_read (c.args.left - 1) table in
    part_shown _ g.met.V.ValueVisitor.visited_append
    (at_same (ap (λ l. members_read table part l c.loop-ty.rest.now) (first_of c.args.types.now c.loop-ty.ty-index c.ty-item.result c.loop-ty-test.true c.ty-item.is))
    c.loop-ty.invariant)
    c.in_ok-rest.ensures

pub each_member-returns-in_err-rest : goal.each_member-returns-in_err-rest
each_member-returns-in_err-rest g t c =
    let table = g.T.Definitions.table c.args.table.now in
    let part = value_read (c.args.left - 1) table in
    part_stops _ c.from_residual.result c.in_err-rest.field-0.0 g.met.V.ValueVisitor.visited_append g.met.V.ValueVisitor.stopped_later c.from_residual.ensures.1
    (at_same (ap (λ l. members_read table part l c.loop-ty.rest.now) (first_of c.args.types.now c.loop-ty.ty-index c.ty-item.result c.loop-ty-test.true c.ty-item.is))
    c.loop-ty.invariant)
    c.in_err-rest.ensures

pub fields-loop-next-preserved : goal.fields-loop-next-preserved
fields-loop-next-preserved g t c =
    let table = g.T.Definitions.table c.args.table.now in
    let part = value_read (c.args.left - 1) table in
    part_shown _ g.met.V.ValueVisitor.visited_append
    (at_same (ap (λ l. fields_read table part c.args.named l c.loop-next.rest.now) (first_of c.args.all.now c.loop-next.next-index c.next-item.result c.loop-next-test.true c.next-item.is))
    c.loop-next.invariant)
    c.in_ok-rest.ensures

pub fields-returns-in_err-rest : goal.fields-returns-in_err-rest
fields-returns-in_err-rest g t c =
    let table = g.T.Definitions.table c.args.table.now in
    let part = value_read (c.args.left - 1) table in
    part_stops _ c.from_residual.result c.in_err-rest.field-0.0 g.met.V.ValueVisitor.visited_append g.met.V.ValueVisitor.stopped_later c.from_residual.ensures.1
    (at_same (ap (λ l. fields_read table part c.args.named l c.loop-next.rest.now) (first_of c.args.all.now c.loop-next.next-index c.next-item.result c.loop-next-test.true c.next-item.is))
    c.loop-next.invariant)
    c.in_err-rest.ensures

pub field-returns-in_err-shown : goal.field-returns-in_err-shown
field-returns-in_err-shown g t c =
    let table = g.T.Definitions.table c.args.table.now in
    let part = value_read (c.args.left - 1) table in
    next_refused (field_of c.args.named c.args.next.now ∷ []) (part (definition_at table c.args.next.now.ty.id) c.args.input.now) _ c.from_residual.result c.in_err-shown.field-0.0 c.field.result g.met.V.ValueVisitor.visited_append g.met.V.ValueVisitor.stopped_later c.from_residual.ensures.1
    c.in_err-shown.ensures.err
    (starts (field_read table part c.args.named c.args.next.now c.args.input.now) (g.met.V.ValueVisitor.visited_none c.args.visitor.now))
    c.field.ensures.err

pub field-returns : goal.field-returns
field-returns g t c =
    let table = g.T.Definitions.table c.args.table.now in
    let part = value_read (c.args.left - 1) table in
    comes g.met.V.ValueVisitor.visited_append g.met.V.ValueVisitor.stopped_later
    (next_shown g.met.V.ValueVisitor.visited_append (starts (field_read table part c.args.named c.args.next.now c.args.input.now) (g.met.V.ValueVisitor.visited_none c.args.visitor.now))
    (by_answer _ c.in_ok-shown.ensures.ok c.field.ensures.ok))
    c.value_within.ensures

pub key_and_value-returns-in_err-rest : goal.key_and_value-returns-in_err-rest
key_and_value-returns-in_err-rest g t c =
    let table = g.T.Definitions.table c.args.table.now in
    let part = value_read (c.args.left - 1) table in
    part_stops _ c.from_residual.result c.in_err-rest.field-0.0 g.met.V.ValueVisitor.visited_append g.met.V.ValueVisitor.stopped_later c.from_residual.ensures.1
    (starts (members_read table part (c.args.key.now ∷ c.args.value.now ∷ []) c.args.input.now) (g.met.V.ValueVisitor.visited_none c.args.visitor.now))
    c.in_err-rest.ensures

pub key_and_value-returns : goal.key_and_value-returns
key_and_value-returns g t c =
    let table = g.T.Definitions.table c.args.table.now in
    let part = value_read (c.args.left - 1) table in
    alone_comes g.met.V.ValueVisitor.visited_append g.met.V.ValueVisitor.stopped_later
    (part_shown _ g.met.V.ValueVisitor.visited_append (starts (members_read table part (c.args.key.now ∷ c.args.value.now ∷ []) c.args.input.now) (g.met.V.ValueVisitor.visited_none c.args.visitor.now)) c.in_ok-rest.ensures)
    c.value_within-2.ensures

pub list-returns-in_err-definition : goal.list-returns-in_err-definition
list-returns-in_err-definition g t c =
    let table = g.T.Definitions.table c.args.table.now in
    let part = value_read (c.args.left - 1) table in
    let type = definition_at table c.args.ty.now.id in
    failure_passed c.from_residual-in_err-definition.result c.in_err-definition.field-0.0 (g.met.V.ValueVisitor.visited_none c.args.visitor.now)
    c.from_residual-in_err-definition.ensures.1
    (barred_list (c.args.left - 1) part type c.args.count c.args.input.now c.in_err-definition.field-0.0 (omega arith)
    c.in_err-definition.ensures.barred)

pub list-returns : goal.list-returns
list-returns g t c =
    let table = g.T.Definitions.table c.args.table.now in
    let part = value_read (c.args.left - 1) table in
    shown_as
    (free_list (c.args.left - 1) part (definition_at table c.args.ty.now.id) c.in_ok-definition.definition.now c.args.count c.args.input.now
    c.in_ok-definition.ensures.found c.in_ok-definition.ensures.free)
    c.list_by.ensures

pub list-returns-then-count-eq0 : goal.list-returns-then-count-eq0
list-returns-then-count-eq0 g t c =
    let table = g.T.Definitions.table c.args.table.now in
    let part = value_read (c.args.left - 1) table in
    let type = definition_at table c.args.ty.now.id in
    ended (next_shown g.met.V.ValueVisitor.visited_append (at_end (at_same (ap (λ n. list_read (c.args.left - 1) part type n c.args.input.now) c.if-count-eq0.true
    ∙ empty_list (is_byte type) (part type) c.args.input.now) (starts _ (g.met.V.ValueVisitor.visited_none c.args.visitor.now))))
    (by_answer _ c.in_ok-shown.ensures.ok c.empty_list.ensures.ok))

pub list-returns-in_err-shown : goal.list-returns-in_err-shown
list-returns-in_err-shown g t c =
    let table = g.T.Definitions.table c.args.table.now in
    let part = value_read (c.args.left - 1) table in
    let type = definition_at table c.args.ty.now.id in
    refused_within (list_events (is_byte type) []) (shows [] c.args.input.now) _ c.from_residual.result c.in_err-shown.field-0.0 c.empty_list.result g.met.V.ValueVisitor.visited_append g.met.V.ValueVisitor.stopped_later c.from_residual.ensures.1
    c.in_err-shown.ensures.err
    (at_end (at_same (ap (λ n. list_read (c.args.left - 1) part type n c.args.input.now) c.if-count-eq0.true
    ∙ empty_list (is_byte type) (part type) c.args.input.now) (starts _ (g.met.V.ValueVisitor.visited_none c.args.visitor.now))))
    c.empty_list.ensures.err

pub list_by-returns-then-is_byte : goal.list_by-returns-then-is_byte
list_by-returns-then-is_byte g t c =
    let table = g.T.Definitions.table c.args.table.now in
    let byte_sized : is_byte (Some c.args.definition.now) ≡ true = sym c.is_byte.ensures ∙ c.if-is_byte.true in
    let read = value_read c.args.left table (Some c.args.definition.now) in
    ended (next_shown g.met.V.ValueVisitor.visited_append
    (at_same (ap (λ b. items_read b c.args.count read c.args.input.now) byte_sized
    ∙ ap (λ o. with_value o (λ all rest. shows (bytes all ∷ []) rest)) c.in_ok-all.ensures.ok)
    (starts _ (g.met.V.ValueVisitor.visited_none c.args.visitor.now)))
    (by_answer _ c.in_ok-shown.ensures.ok c.bytes-then-is_byte.ensures.ok))

pub list_by-returns-in_err-all : goal.list_by-returns-in_err-all
list_by-returns-in_err-all g t c =
    let table = g.T.Definitions.table c.args.table.now in
    let byte_sized : is_byte (Some c.args.definition.now) ≡ true = sym c.is_byte.ensures ∙ c.if-is_byte.true in
    let read = value_read c.args.left table (Some c.args.definition.now) in
    failure_passed c.from_residual.result c.in_err-all.field-0.0 (g.met.V.ValueVisitor.visited_none c.args.visitor.now) c.from_residual.ensures.1
    (ap (λ b. items_read b c.args.count read c.args.input.now) byte_sized
    ∙ ap (λ o. with_value o (λ all rest. shows (bytes all ∷ []) rest)) c.in_err-all.ensures.err)

pub list_by-returns-in_err-shown : goal.list_by-returns-in_err-shown
list_by-returns-in_err-shown g t c =
    let table = g.T.Definitions.table c.args.table.now in
    let byte_sized : is_byte (Some c.args.definition.now) ≡ true = sym c.is_byte.ensures ∙ c.if-is_byte.true in
    let read = value_read c.args.left table (Some c.args.definition.now) in
    next_refused (bytes c.in_ok-all.all.now ∷ []) (shows [] c.in_ok-all.rest.now) _ c.from_residual-in_err-shown.result c.in_err-shown.field-0.0 c.bytes-then-is_byte.result g.met.V.ValueVisitor.visited_append g.met.V.ValueVisitor.stopped_later
    c.from_residual-in_err-shown.ensures.1 c.in_err-shown.ensures.err
    (at_same (ap (λ b. items_read b c.args.count read c.args.input.now) byte_sized
    ∙ ap (λ o. with_value o (λ all rest. shows (bytes all ∷ []) rest)) c.in_ok-all.ensures.ok)
    (starts _ (g.met.V.ValueVisitor.visited_none c.args.visitor.now)))
    c.bytes-then-is_byte.ensures.err

pub list_by-returns : goal.list_by-returns
list_by-returns g t c =
    let table = g.T.Definitions.table c.args.table.now in
    let other : is_byte (Some c.args.definition.now) ≡ false = sym c.is_byte.ensures ∙ c.if-is_byte.false in
    let read = value_read c.args.left table (Some c.args.definition.now) in
    shown_as (ap (λ b. items_read b c.args.count read c.args.input.now) other) c.list_of_items.ensures
