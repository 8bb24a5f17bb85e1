use Rattle.std.proofs.Common.{◌≡◌, arith, length}
use Rattle.std.proofs.lemmas.Bool.Decides.{nat_tests}
use Rattle.std.proofs.lemmas.Result.{err_from_is_err_and}
use Rattle.type_reader_run.proofs.Differences.{explains_diff, writes_none}
use Rattle.type_reader_run.proofs.compare.compare.Goals as goal

pub returns-in_err-lines-clause-err : goal.returns-in_err-lines-clause-err
returns-in_err-lines-clause-err g c =
    let p = err_from_is_err_and c.from_residual-in_err-lines.result c.from_residual-in_err-lines.ensures.1 in
    rw (p.1, p.2)
    (explains_diff c.args.comparison.now (g.R.Read.remaining c.args.reader.now)
    (g.S.Read.remaining c.args.second.now) (g.W.Write.contents c.args.output.now)
    c.in_ok-old.old.bytes.items c.in_ok-new.new.bytes.items c.in_ok-old.ensures.bytes
    c.in_ok-new.ensures.bytes c.in_err-lines.field-0.0 c.in_err-lines.ensures.err)

pub returns-then-is_empty-clause-same : goal.returns-then-is_empty-clause-same
returns-then-is_empty-clause-same g c _ =
    let none : length c.in_ok-lines.lines.items ≡ 0 = grind (arith, nat_tests) in
    writes_none c.args.comparison.now (g.R.Read.remaining c.args.reader.now)
    (g.S.Read.remaining c.args.second.now) (g.W.Write.contents c.args.output.now)
    c.in_ok-old.old.bytes.items c.in_ok-new.new.bytes.items c.in_ok-lines.lines.items
    c.in_ok-old.ensures.bytes c.in_ok-new.ensures.bytes c.in_ok-lines.ensures.ok none
