use Rattle.serde_json.specs.View.{view}
use Rattle.type_reader_lines.proofs.Faults.{taking_error}
use Rattle.type_reader_lines.proofs.encode.encoded_line.Goals as goal

pub returns-clause-err : goal.returns-clause-err
returns-clause-err c =
    taking_error c.args.table.now c.args.id c.args.json.now (view c.in_ok-tree.tree)
    c.error_of.result c.in_ok-tree.ensures.ok (c.error_of.ensures _ c.in-Err.ensures.err)
