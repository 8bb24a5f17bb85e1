use Rattle.std.proofs.Common.{sym}
use Rattle.scale_info_table_view.proofs.Viewed.{same_entry, some_entry}
use Rattle.scale_info_table_view.proofs.view.TableView.entry.Goals as goal

pub returns-in_default : goal.returns-in_default
returns-in_default c = sym c.in_default.ensures.none

pub unreachable-requires : goal.unreachable-requires
unreachable-requires c =
    some_entry c.args.self.now.types c.args.index c.in-Some.bytes.now c.in-Some.ensures.some
    (rw c.in-Err-Malformed.field-0-is at c.in-Err-Malformed.ensures.malformed)

pub returns-in-Ok : goal.returns-in-Ok
returns-in-Ok c =
    same_entry c.args.self.now.types c.args.index c.in-Some.bytes.now _ c.in-Ok.entry c.in-Some.ensures.some
    c.in-Ok.ensures.ok
