use Rattle.std.proofs.Common.{rules, ap, refl, slice_get, Some, ◌<◌, ◌≡◌, ◌≤◌, ◌∙◌, length, sym}
use Rattle.scale_info_table_prune.proofs.Pruning.{begins_there, entry_at, found_at, no_entry}
use Rattle.scale_info_table_prune.proofs.indexed.IndexedTable.description_at.Goals as goal
use Rattle.scale_info_table_prune.proofs.indexed.IndexedTable.description_at.Goals.{In-Some}

pub returns-in_default-clause-none : goal.returns-in_default-clause-none
returns-in_default-clause-none c =
    let past : length c.self.inside.index.offsets.items ≤ c.args.id = search rules in
    ap (λ types. slice_get types c.args.id) (sym c.self.view_is) ∙ no_entry c.self.invariant.0 c.args.id past

-- the offset is that at the id
found :
    (c : In-Some)
    → slice_get c.self.inside.index.offsets.items c.args.id ≡ Some c.in-Some.offset.now
found c =
    let within : c.args.id < length c.deref.result.now = search rules in
    found_at _ c.deref.result.now _ _ c.deref.ensures.value within c.in-Some.ensures.lookup.1

-- so it is within the bytes
within : (c : In-Some) → c.in-Some.offset.now ≤ length c.self.inside.body.now
within c = (entry_at c.self.invariant.0 c.args.id c.in-Some.offset.now (found c)).2.within

pub slice_bounds-result-count : goal.slice_bounds-result-count
slice_bounds-result-count c = within (goal.at.slice_bounds-result-count c).In-Some

pub slice_bounds-result-start : goal.slice_bounds-result-start
slice_bounds-result-start c = within (goal.at.slice_bounds-result-start c).In-Some

pub returns-clause-some : goal.returns-clause-some
returns-clause-some c =
    rw (sym c.self.view_is)
    (begins_there c.self.invariant.0 c.args.id c.in-Some.offset.now _ (found (goal.at.returns-clause-some c).In-Some) refl)
