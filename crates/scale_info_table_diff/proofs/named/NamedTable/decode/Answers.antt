use Rattle.std.proofs.Common.{◌∙◌}
use Rattle.std.proofs.lemmas.Result.{IfErr-weaker, IfOk-weaker}
use Rattle.scale_info_table_diff.proofs.Differences.{memory_alone}
use Rattle.scale_info_table_diff.proofs.Encoded.{one_table}
use Rattle.scale_info_table_diff.proofs.named.NamedTable.decode.Goals as goal

pub returns-clause-ok : goal.returns-clause-ok
returns-clause-ok c =
    IfOk-weaker c.table_of.result _ _
    (λ table encodes.
    one_table table.types c.self.inside.table c.as_bytes.result.now encodes c.as_bytes.ensures ∙ c.self.view_is)
    c.table_of.ensures.ok

pub returns-clause-err : goal.returns-clause-err
returns-clause-err c =
    IfErr-weaker c.table_of.result _ _
    (λ e why. memory_alone c.self.inside.table c.as_bytes.result.now c.as_bytes.ensures e why)
    c.table_of.ensures.cause
