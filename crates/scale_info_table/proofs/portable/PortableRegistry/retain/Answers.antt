use Rattle.std.proofs.Common.{rules}
use Rattle.scale_info_table.proofs.portable.PortableRegistry.retain.Goals as goal

pub returns-clause-ok : goal.returns-clause-ok
returns-clause-ok g c = c.retain_types.ensures.ok

pub returns-clause-err : goal.returns-clause-err
returns-clause-err g c = search rules
