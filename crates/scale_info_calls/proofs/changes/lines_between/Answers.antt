use Rattle.std.proofs.Common.{subst, sym}
use Rattle.std.proofs.lemmas.Result.{IfErr-weaker, IfOk-weaker}
use Rattle.scale_info_calls.proofs.Differences.{not_compared}
use Rattle.scale_info_calls.specs.Changes.{IsChangesRefusal}
use Rattle.scale_info_table_diff.specs.TableChanges.{AreChanges}
use Rattle.scale_info_calls.proofs.changes.lines_between.Goals as goal

pub returns-in-Ok-clause-ok : goal.returns-in-Ok-clause-ok
returns-in-Ok-clause-ok c =
    IfOk-weaker c.lines_of.result _ _
    (λ lines is. record {
      types = c.in_ok-table.table;
      others = c.in_ok-other.other;
      encodes = c.in_ok-table.ensures.ok;
      other_encodes = c.in_ok-other.ensures.ok;
      changes = c.deref.result.now;
      changed =
          subst (AreChanges c.in_ok-table.table c.in_ok-other.other) (sym c.deref.ensures.value)
          c.in-Ok.ensures.ok;
      lines = is;
    })
    c.lines_of.ensures.ok

pub returns-in-Ok-clause-err : goal.returns-in-Ok-clause-err
returns-in-Ok-clause-err c =
    IfErr-weaker c.lines_of.result _ _
    (λ e is. subst (IsChangesRefusal c.args.old.now c.args.new.now) (sym is) tt)
    c.lines_of.ensures.err

pub returns-clause-err : goal.returns-clause-err
returns-clause-err c =
    subst (IsChangesRefusal c.args.old.now c.args.new.now) (sym c.error_of.ensures)
    (not_compared c.args.old.now c.args.new.now _ _ c.in-Err.error c.in_ok-table.ensures.ok
    c.in_ok-other.ensures.ok c.in-Err.ensures.cause)
