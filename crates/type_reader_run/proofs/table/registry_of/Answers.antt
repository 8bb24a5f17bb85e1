use Rattle.type_reader_run.proofs.Tables.{encodes_whole}
use Rattle.type_reader_run.proofs.table.registry_of.Goals as goal

pub returns-in-Ok-clause-ok : goal.returns-in-Ok-clause-ok
returns-in-Ok-clause-ok c =
    encodes_whole c.in-Ok.registry.types c.args.table.now c.in-Ok.field-0-1.now c.requires
    c.in-Ok.ensures.ok
