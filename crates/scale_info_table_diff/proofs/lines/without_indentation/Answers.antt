use Rattle.scale_info_table_diff.proofs.Indented.{indented}
use Rattle.scale_info_table_diff.proofs.lines.without_indentation.Goals as goal

pub returns : goal.returns
returns c = indented c.args.line.now c.trim_start_matches.result.now c.trim_start_matches.ensures.matches
