use Rattle.std.proofs.Common.{ap, ◌∙◌, take}
use Rattle.scale_info_table.specs.IndexedEntries.{indexed_from}
use Rattle.scale_info_table.proofs.IndexedEntries.{taken_within}
use Rattle.scale_info_table.proofs.portable.PortableRegistry.entries.Goals as goal

pub returns : goal.returns
returns c =
    ap (indexed_from 0)
    (taken_within c.types-types.result.now 4294967296 c.min.result c.min.ensures ∙ ap (take 4294967296) c.types-types.ensures)
