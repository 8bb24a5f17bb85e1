use Rattle.std.proofs.Common.{rules}
use Rattle.scale_info_table.proofs.renumbering.renumbered_definition.Goals as goal

pub returns-in-Map : goal.returns-in-Map
returns-in-Map c = search rules
