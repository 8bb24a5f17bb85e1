use Rattle.std.proofs.Common.{refl, sym, subst}
use Rattle.type_table_run.specs.Outputs.{Outputs}
use Rattle.type_table_run.specs.OneTable.{IsOneTable}
use Rattle.type_table_io.specs.declared.command.Command.{Command}
use Rattle.type_table_run.proofs.output.output_of.Goals as goal

pub returns-in_ok-check_table-in-Check-clause-ok : goal.returns-in_ok-check_table-in-Check-clause-ok
returns-in_ok-check_table-in-Check-clause-ok c =
    let input = c.args.input.items in
    let is_table = subst IsOneTable c.deref.ensures.value c.in_ok-check_table-in-Check.ensures.ok in
    subst (λ (command : Command). Outputs command input input) (sym c.in-Check.is) (is_table, refl)
