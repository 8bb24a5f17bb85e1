use Rattle.std.proofs.Common.{refl}
use Rattle.std.proofs.lemmas.Result.{IfErr-weaker, err_from_is_err_and}
use Rattle.type_reader_run.proofs.Runs.{lines_refused, lines_stopped}
use Rattle.type_reader_run.specs.Runs.{not_compared}
use Rattle.type_reader_run.proofs.program.run_command.Goals as goal

pub returns-in_err-converter-in-Lines-clause-err :
    goal.returns-in_err-converter-in-Lines-clause-err
returns-in_err-converter-in-Lines-clause-err g c =
    let p =
    err_from_is_err_and c.from_residual-in_err-converter-in-Lines.result
    c.from_residual-in_err-converter-in-Lines.ensures.1 in
    rw (p.1, p.2, c.in-Lines.is)
    (lines_refused g.T.Reporter.reported c.args.reporter.now _ _ _ _ _ _
    c.in_err-converter-in-Lines.ensures.err)

pub returns-in_ok-converter-in-Lines-clause-err :
    goal.returns-in_ok-converter-in-Lines-clause-err
returns-in_ok-converter-in-Lines-clause-err g c =
    rw c.in-Lines.is
    (IfErr-weaker c.convert_lines.result _ _
    (λ e h. lines_stopped g.T.Reporter.reported c.args.reporter.now c.convert_lines.new.reporter
    c.in_ok-converter-in-Lines.ensures.way c.in_ok-converter-in-Lines.ensures.ok h)
    c.convert_lines.ensures.err)

pub returns-in-Diff-clause-err : goal.returns-in-Diff-clause-err
returns-in-Diff-clause-err g c =
    rw c.in-Diff.is
    (IfErr-weaker c.compare.result _ _
    (λ e explains last small told. not_compared e small explains (last, told, refl))
    c.compare.ensures.err)
