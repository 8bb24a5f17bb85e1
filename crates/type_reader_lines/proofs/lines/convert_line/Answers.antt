use Rattle.std.proofs.Common.{inl, inr, refl, subst}
use Rattle.std.proofs.lemmas.Result.{err_from_is_err_and}
use Rattle.type_reader_io.specs.Lines.{bad_line}
use Rattle.type_reader_lines.proofs.Steps.{bad_one, made_one, stops_at_write, stops_kept}
use Rattle.type_reader_lines.specs.Conversions.{IsLineError}
use Rattle.type_reader_lines.proofs.lines.convert_line.Goals.{in-Ok, in-Err-Fault+in_ok-write_beyond-in-Err-Fault}
use Rattle.type_reader_lines.proofs.lines.convert_line.Goals as goal

pub returns-in_default-clause-err : goal.returns-in_default-clause-err
returns-in_default-clause-err g c = stops_kept refl (inr refl) refl

pub returns-in_err-write_beyond-in-Err-Fault-clause-err :
    goal.returns-in_err-write_beyond-in-Err-Fault-clause-err
returns-in_err-write_beyond-in-Err-Fault-clause-err g c =
    let p =
    err_from_is_err_and c.from_residual.result
    c.from_residual.ensures.1 in
    rw (p.1, p.2)
    (stops_at_write c.in-Err-Fault.ensures.keeps
    c.in_err-write_beyond-in-Err-Fault.ensures.err
    c.in_err-write_beyond-in-Err-Fault.ensures.error refl)

pub returns-in-Err-Memory-clause-err : goal.returns-in-Err-Memory-clause-err
returns-in-Err-Memory-clause-err g c =
    stops_kept c.in-Err-Memory.ensures.keeps (inl refl) refl

pub returns-clause-ok : goal.returns-clause-ok
returns-clause-ok g c =
    elim c.match-append_line.branch [
      | in-Ok w ↦
          rw (w.progress-is, w.output-is, w.reporter-is)
          (made_one w.in-Ok.ensures.ok c.in-Some.ensures.1 refl
          refl)
      | in-Err-Fault+in_ok-write_beyond-in-Err-Fault w ↦
          rw (w.progress-is, w.output-is, w.reporter-is)
          (bad_one w.in-Err-Fault.fault
          (subst
          (IsLineError c.args.converter.now.conversion c.args.converter.now.registry
          c.args.converter.now.id c.args.line.now)
          w.in-Err-Fault.field-0-is w.in-Err-Fault.ensures.err)
          w.in-Err-Fault.ensures.keeps
          w.in_ok-write_beyond-in-Err-Fault.ensures.ok refl c.in-Some.ensures.1 refl (
            w.report.new.self,
            subst
                (λ n. g.T.Reporter.reported c.args.reporter.now w.report.new.self
                (bad_line n w.in-Err-Fault.fault))
                c.in-Some.ensures.1 w.report.ensures,
            refl,
          ))
    ]
