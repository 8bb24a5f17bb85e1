use Rattle.type_reader_lines.proofs.value.append_text.Goals as goal

pub returns-in-Err-clause-err : goal.returns-in-Err-clause-err
returns-in-Err-clause-err c = c.error_of.ensures _ c.in-Err.ensures.err
