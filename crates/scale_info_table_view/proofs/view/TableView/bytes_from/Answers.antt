use Rattle.std.proofs.Common.{rules, refl, slice_get, Some, ◌<◌, ◌≡◌, ◌≤◌, length}
use Rattle.scale_info_table_view.proofs.Viewed.{begins_there, found_at, no_entry, offset_within}
use Rattle.scale_info_table_view.proofs.view.TableView.bytes_from.Goals as goal
use Rattle.scale_info_table_view.proofs.view.TableView.bytes_from.Goals.{In-Some}

pub returns-in_default-clause-none : goal.returns-in_default-clause-none
returns-in_default-clause-none c =
    let past : length c.self.inside.offsets.items ≤ c.args.index = search rules in
    no_entry _ _ c.self.inside.table c.args.self.now c.self.view_is c.args.index past

-- the offset is that at the index
found :
    (c : In-Some)
    → slice_get c.self.inside.offsets.items c.args.index ≡ Some c.in-Some.offset.now
found c =
    let within : c.args.index < length c.deref.result.now = search rules in
    found_at _ c.deref.result.now _ _ c.deref.ensures.value within c.in-Some.ensures.lookup.1

-- so it is within the bytes
within : (c : In-Some) → c.in-Some.offset.now ≤ length c.self.inside.bytes.now
within c =
    offset_within _ _ c.self.inside.table c.args.self.now c.self.view_is c.args.index
    c.in-Some.offset.now (found c)

pub slice_bounds-result-count : goal.slice_bounds-result-count
slice_bounds-result-count c = within (goal.at.slice_bounds-result-count c).In-Some

pub slice_bounds-result-start : goal.slice_bounds-result-start
slice_bounds-result-start c = within (goal.at.slice_bounds-result-start c).In-Some

pub returns-clause-some : goal.returns-clause-some
returns-clause-some c =
    begins_there _ _ c.self.inside.table c.args.self.now c.self.view_is c.args.index
    c.in-Some.offset.now _ (found (goal.at.returns-clause-some c).In-Some) refl
