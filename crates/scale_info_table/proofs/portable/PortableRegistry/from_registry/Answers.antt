use Rattle.std.proofs.Common.{ap, ◌∙◌}
use Rattle.scale_info_table.specs.BuiltTables.{numbered_from}
use Rattle.scale_info_table.proofs.ClosedLists.{closed_numbered}
use Rattle.scale_info_table.proofs.portable.PortableRegistry.from_registry.Goals as goal

pub returns : goal.returns
returns g c =
    let entries = c.in_ok-types.ensures ∙ ap (numbered_from 0) c.descriptions.ensures.list in
    let facts = closed_numbered _ _ _ entries c.descriptions.ensures.closed c.descriptions.ensures.few in
    record { entries = entries; long = facts.0; closed = facts.1; few = facts.2 }
