use Rattle.std.proofs.Common.{◌≡◌, ◌∙◌, ◌+◌, drop, get_or, map, sym, subst, arith}
use Rattle.std.proofs.lemmas.Bool.{false≢true}
use Rattle.std.proofs.lemmas.List.{drop_all, drop_more}
use Rattle.scale_info_segments.specs.TypePaths.{joined}
use Rattle.scale_info_table_diff.proofs.AddedIds.{IsSoFar, after_named, after_unnamed, at_end}
use Rattle.scale_info_table_diff.specs.TypesByPath.{AddsId}
use Rattle.scale_info_table_diff.proofs.paths.paths_with_ids.Goals as goal

pub loop-index-preserved-then-is_empty : goal.loop-index-preserved-then-is_empty
loop-index-preserved-then-is_empty c =
    let types = c.args.types.now in
    let i = c.loop-index.index in
    let e = get_or types i c.index-types-index.result in
    let rows = map (λ row. row.items) c.loop-index.ids.items in
    after_unnamed types i e (drop (i + 1) types) c.loop-index.paths rows
    (subst (λ es. IsSoFar types i es c.loop-index.paths rows)
    (drop_more types i c.index-types-index.result c.loop-index-test.true) c.loop-index.invariant)
    (c.is_empty.ensures.0 c.if-is_empty.true)

pub loop-index-preserved : goal.loop-index-preserved
loop-index-preserved c =
    let types = c.args.types.now in
    let i = c.loop-index.index in
    let e = get_or types i c.index-types-index.result in
    let rows = map (λ row. row.items) c.loop-index.ids.items in
    let rows_after = map (λ row. row.items) c.add_id.new.ids.items in
    let text : c.from-text.result ≡ joined e.ty.path.segments = c.from-text.ensures ∙ c.in_ok-to_string.ensures.ok in
    after_named types i e (drop (i + 1) types) c.loop-index.paths rows
    (subst (λ es. IsSoFar types i es c.loop-index.paths rows)
    (drop_more types i c.index-types-index.result c.loop-index-test.true) c.loop-index.invariant)
    c.add_id.new.paths rows_after
    (λ none. false≢true (sym c.if-is_empty.false ∙ c.is_empty.ensures.1 none))
    (subst (λ p. AddsId p i c.loop-index.paths rows c.add_id.new.paths rows_after) text
    c.in_ok-add_id.ensures)

pub returns-clause-ids : goal.returns-clause-ids
returns-clause-ids c =
    let types = c.args.types.now in
    (at_end types c.loop-index.index (drop c.loop-index.index types) c.loop-index.paths
    (map (λ row. row.items) c.loop-index.ids.items)
    (drop_all c.loop-index.index types (omega arith)) c.loop-index.invariant).1
