use Rattle.std.proofs.Common.{List, rules, subst}
use Rattle.std.specs.List.{filter}
use Rattle.scale_info_table_diff.specs.declared.change.Change.{Change}
use Rattle.type_reader_run.proofs.Differences.{changes_error, path_error}
use Rattle.type_reader_run.specs.Differences.{AreLinesOf, is_of}
use Rattle.type_reader_run.proofs.diff.lines_of_tables.Goals as goal

pub returns-in_err-check_paths-clause-err : goal.returns-in_err-check_paths-clause-err
returns-in_err-check_paths-clause-err c = search (rules, path_error)

pub returns-in_err-changes-clause-err : goal.returns-in_err-changes-clause-err
returns-in_err-changes-clause-err c = search (rules, changes_error)

pub returns-clause-ok : goal.returns-clause-ok
returns-clause-ok c = record {
  known = c.in_ok-check_paths.ensures.ok;
  changes = c.in_ok-changes.changes.items;
  changed = c.in_ok-changes.ensures.ok;
  lines =
      subst
      (λ (cs : List Change). AreLinesOf c.args.old.now c.args.new.now (filter (is_of c.args.paths.now) cs) c.in_ok-lines_of.field-0.items)
      c.deref.ensures.value
      (rw (c.in_ok-changes.ensures.old, c.in_ok-changes.ensures.new) at c.in_ok-lines_of.ensures);
}
