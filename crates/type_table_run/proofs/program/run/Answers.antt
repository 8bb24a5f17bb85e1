use Rattle.std.proofs.Common.{◌≡◌, subst}
use Rattle.std.specs.Prelude.{IfErr}
use Rattle.type_table_io.specs.Commands.{HasCommand}
use Rattle.type_table_io.specs.Lines.{HasSmallId, line_of}
use Rattle.type_table_io.specs.Reports.{Reported}
use Rattle.type_table_io.specs.declared.error.RunError.{RunError}
use Rattle.type_table_io.specs.declared.error.RunError.TheVariants.{Malformed, TrailingBytes}
use Rattle.type_table_io.specs.declared.error.RunError.TheVariants.{NoSuchType, Dangling, Memory}
use Rattle.type_table_io.specs.declared.error.RunError.TheVariants.{Input, Output}
use Rattle.type_table_run.proofs.Reports.{explained}
use Rattle.type_table_run.specs.Refusals.{Explains, Refuses, Says}
use Rattle.type_table_run.proofs.program.run.Given as given
use Rattle.type_table_run.proofs.program.run.Goals as goal

-- at status 1 the message is an error, which explains what the command did, and its line was reported
refused :
    (g : given.Over) (c : goal.After-report_outcome g) → c.report_outcome.result ≡ 1
    → HasCommand c.args.arguments.now (λ command.
    Refuses command (g.R.Read.remaining c.args.reader.now)
    (g.W.Write.contents c.args.output.now) (g.W.Write.contents c.outcome-outcome.new.output)
    (g.F.Write.contents c.args.errors.now) (g.F.Write.contents c.report_outcome.new.errors))
refused g c one =
    let told = c.report_outcome.ensures.refused one in
    let said =
    subst
    (λ r. IfErr r (Says c.args.arguments.now (g.R.Read.remaining c.args.reader.now)
    (g.W.Write.contents c.args.output.now) (g.W.Write.contents c.outcome-outcome.new.output)))
    told.1 c.outcome-outcome.ensures.says in
    record {
      command = said.1.command;
      names = said.1.names;
      holds = record {
        error = told.0;
        small = said.0;
        explains = said.1.holds;
        reports = told.2;
      };
    }

-- an error whose line was reported is so
so :
    (g : given.Over) (c : goal.After-report_outcome g) (error : RunError) → HasSmallId error
    → Reported (g.F.Write.contents c.args.errors.now) (g.F.Write.contents c.report_outcome.new.errors)
    (line_of error)
    → HasCommand c.args.arguments.now (λ command.
    Explains command (g.R.Read.remaining c.args.reader.now)
    (g.W.Write.contents c.args.output.now) (g.W.Write.contents c.outcome-outcome.new.output) error)
so g c error small reported =
    explained g.F.Write.contents _ _ c.report_outcome.result _ _ _ _ error small
    c.report_outcome.ensures.status (λ done. (c.report_outcome.ensures.done done).1)
    (refused g c)
    (λ two. (c.report_outcome.ensures.usage two).1) reported

pub returns-clause-refused : goal.returns-clause-refused
returns-clause-refused g c = refused g c

pub returns-clause-malformed : goal.returns-clause-malformed
returns-clause-malformed g c reported = (so g c Malformed tt reported).holds

pub returns-clause-trailing_bytes : goal.returns-clause-trailing_bytes
returns-clause-trailing_bytes g c reported = (so g c TrailingBytes tt reported).holds

pub returns-clause-out_of_memory : goal.returns-clause-out_of_memory
returns-clause-out_of_memory g c reported = (so g c Memory tt reported).holds

pub returns-clause-input_failed : goal.returns-clause-input_failed
returns-clause-input_failed g c reported = (so g c Input tt reported).holds

pub returns-clause-output_failed : goal.returns-clause-output_failed
returns-clause-output_failed g c reported = so g c Output tt reported

pub returns-clause-no_such_type : goal.returns-clause-no_such_type
returns-clause-no_such_type g c id small reported =
    let known = so g c (NoSuchType id) small reported in
    (record { command = known.command; names = known.names; holds = known.holds.0 }, known.holds.1)

pub returns-clause-dangling : goal.returns-clause-dangling
returns-clause-dangling g c id small reported =
    let known = so g c (Dangling id) small reported in
    (record { command = known.command; names = known.names; holds = known.holds.0 }, known.holds.1)
