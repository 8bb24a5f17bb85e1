use Rattle.std.proofs.Common.{ap, ◌∙◌}
use Rattle.scale_info_table.specs.BuiltTables.{numbered_from}
use Rattle.scale_info_table.proofs.ClosedLists.{closed_numbered}
use Rattle.scale_info_table.proofs.portable.PortableRegistry.from_finished.Goals as goal

pub returns : goal.returns
returns g c =
    let entries =
    c.in_ok-of_descriptions.ensures ∙ ap (numbered_from 0) c.into_descriptions.ensures.list in
    let facts =
    closed_numbered _ _ _ entries c.into_descriptions.ensures.closed c.into_descriptions.ensures.few in
    record { entries = entries; long = facts.0; closed = facts.1; few = facts.2 }
