use Rattle.scale_info_table_metadata.proofs.Forms.{no_count, not_as_many}
use Rattle.scale_info_table_metadata.proofs.metadata.bytes_of_string.Goals as goal

pub returns-else-bytes-count-clause-none : goal.returns-else-bytes-count-clause-none
returns-else-bytes-count-clause-none c =
    λ bytes s. not_as_many c.in-Some.ensures.some s c.if-bytes-count.false

pub returns-in-None-clause-none : goal.returns-in-None-clause-none
returns-in-None-clause-none c = λ bytes s. no_count c.in-None.ensures.none s
