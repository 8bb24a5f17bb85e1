use Rattle.std.proofs.Common.{arith}
use Rattle.scale_info_table_metadata.proofs.Rests.{ends_at_word, ends_at_version}
use Rattle.scale_info_table_metadata.proofs.metadata.table_of.Goals as goal

pub returns-in_default-clause-err : goal.returns-in_default-clause-err
returns-in_default-clause-err c =
    ends_at_word c.in_default.ensures.none c.in-Some.ensures.some

pub returns-in-None-split_table-clause-err : goal.returns-in-None-split_table-clause-err
returns-in-None-split_table-clause-err c =
    ends_at_version c.in-Some-split_version.ensures.some c.in-Some.ensures.some
    (omega arith) (omega arith) c.in-None-split_table.ensures.none
