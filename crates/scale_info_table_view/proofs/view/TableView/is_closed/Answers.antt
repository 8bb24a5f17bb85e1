use Rattle.std.proofs.Common.{◌≤◌, All, length, subst, sym}
use Rattle.std.specs.List.{AllZip}
use Rattle.scale_info_table_view.proofs.Viewed.{closed_by_entries, offsets_within}
use Rattle.scale_info_table_view.specs.Views.{IsEntryAt}
use Rattle.scale_info_table_view.proofs.view.TableView.is_closed.Goals as goal

pub are_closed_entries-requires : goal.are_closed_entries-requires
are_closed_entries-requires c =
    subst (All (λ offset. offset ≤ length c.self.inside.bytes.now)) (sym c.deref.ensures.value)
    (offsets_within _ _ c.self.inside.table c.args.self.now c.self.view_is)

pub returns : goal.returns
returns c =
    closed_by_entries _ _ c.self.inside.table c.args.self.now c.self.view_is _
    (λ types at. c.are_closed_entries.ensures types
    (subst (AllZip (IsEntryAt c.self.inside.bytes.now) types) (sym c.deref.ensures.value) at))
