use Rattle.std.proofs.Common.{rules}
use Rattle.type_reader_run.proofs.Explained.{explained}
use Rattle.type_reader_io.proofs.Reports.{each_written}
use Rattle.type_reader_run.proofs.Runs.{done_by, refused_by}
use Rattle.type_reader_run.proofs.program.run.Goals as goal

pub returns-clause-done : goal.returns-clause-done
returns-clause-done g c zero =
    done_by c.args.command _ _ _ _ _ _
    (each_written _ g.F.Write.contents _ _ _ (λ old new text r. r) (λ name. search rules))
    (c.run_with-status.ensures.done zero)

pub returns-clause-refused : goal.returns-clause-refused
returns-clause-refused g c one =
    refused_by c.args.command _ _ _ _ _ _
    (each_written _ g.F.Write.contents _ _ _ (λ old new text r. r) (λ name. search rules))
    (c.run_with-status.ensures.refused one)

pub returns-clause-explained : goal.returns-clause-explained
returns-clause-explained g c error small reported =
    explained c.run_with-status.result c.args.command _ _ _ _ _ _ error small c.run_with-status.ensures.status
    (returns-clause-done g c) (returns-clause-refused g c) (search rules) reported
