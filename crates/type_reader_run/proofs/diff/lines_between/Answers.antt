use Rattle.std.proofs.Common.{◌≡◌, subst, sym}
use Rattle.std.proofs.lemmas.Result.{IfErr-weaker, IfOk-weaker}
use Rattle.scale_info_grammar.specs.Ty.{EncodesTypes}
use Rattle.type_reader_run.proofs.Differences.{are_lines, same_compared, tables_error}
use Rattle.type_reader_run.specs.Differences.{compared}
use Rattle.type_reader_run.specs.Tables.{HasTypes}
use Rattle.type_reader_run.proofs.diff.lines_between.Goals as goal
use Rattle.type_reader_run.proofs.diff.lines_between.Goals.{After-lines_of_tables}

-- the tables have types
has_old :
    (c : After-lines_of_tables) → HasTypes c.args.old.now.bytes.items c.in_ok-table.ensures.table.types
has_old c = record {
  table = c.in_ok-table.table.now;
  has = c.in_ok-table.ensures.ok;
  encodes = c.in_ok-table.ensures.table.encodes;
}

has_new :
    (c : After-lines_of_tables) → HasTypes c.args.new.now.bytes.items c.in_ok-other.ensures.table.types
has_new c = record {
  table = c.in_ok-other.other.now;
  has = c.in_ok-other.ensures.ok;
  encodes = c.in_ok-other.ensures.table.encodes;
}

-- and were read as they are compared
read_old :
    (c : After-lines_of_tables)
    → c.in_ok-named.named ≡ compared c.args.comparison.now.docs c.in_ok-table.ensures.table.types
read_old c =
    let types = c.in_ok-table.ensures.table.types in
    let docs = c.args.comparison.now.docs in
    same_compared docs types c.deref.result.now c.in_ok-named.named
    (subst (EncodesTypes (compared docs types)) (sym c.deref.ensures.value)
    (c.in_ok-bytes.ensures.ok types c.in_ok-table.ensures.table.encodes))
    c.in_ok-named.ensures.ok

read_new :
    (c : After-lines_of_tables)
    → c.in_ok-other_named.other_named ≡ compared c.args.comparison.now.docs c.in_ok-other.ensures.table.types
read_new c =
    let types = c.in_ok-other.ensures.table.types in
    let docs = c.args.comparison.now.docs in
    same_compared docs types c.deref-2.result.now c.in_ok-other_named.other_named
    (subst (EncodesTypes (compared docs types)) (sym c.deref-2.ensures.value)
    (c.in_ok-others.ensures.ok types c.in_ok-other.ensures.table.encodes))
    c.in_ok-other_named.ensures.ok

pub returns-clause-ok : goal.returns-clause-ok
returns-clause-ok c =
    let at = (goal.at.returns-clause-ok c).After-lines_of_tables in
    IfOk-weaker c.lines_of_tables.result _ _
    (λ lines x.
    are_lines c.args.comparison.now c.args.old.now.bytes.items c.args.new.now.bytes.items lines.items
    c.in_ok-table.ensures.table.types c.in_ok-other.ensures.table.types (has_old at) (has_new at) x)
    (rw (read_old at, read_new at) at c.lines_of_tables.ensures.ok)

pub returns-clause-err : goal.returns-clause-err
returns-clause-err c =
    let at = (goal.at.returns-clause-err c).After-lines_of_tables in
    IfErr-weaker c.lines_of_tables.result _ _
    (λ error why.
    tables_error c.args.comparison.now.docs c.args.comparison.now.paths.now c.args.old.now.bytes.items
    c.args.new.now.bytes.items c.in_ok-table.ensures.table.types c.in_ok-other.ensures.table.types error
    (has_old at) (has_new at) why)
    (rw (read_old at, read_new at) at c.lines_of_tables.ensures.err)
