use Rattle.std.proofs.Common.{subst}
use Rattle.scale_info_table_metadata.specs.TablesFound.{IsTableOf}
use Rattle.type_reader_run.proofs.table.table_in.Goals as goal

pub returns-clause-ok : goal.returns-clause-ok
returns-clause-ok c = record {
  source = c.in_ok-table.field-0-0;
  found =
      subst (λ b. IsTableOf b c.in_ok-table.field-0-0 c.in_ok-table.table.now) c.deref.ensures.value
      c.in_ok-table.ensures.ok;
}
