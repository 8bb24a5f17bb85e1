use Rattle.std.proofs.Common.{codes, ◌++◌}
use Rattle.type_table_io.proofs.LineParts.{part_of_first, first_and_part, first_and_rest}
use Rattle.type_table_io.proofs.writing.write_line.Goals as goal

pub returns-in_err-write_all-clause-line : goal.returns-in_err-write_all-clause-line
returns-in_err-write_all-clause-line g c =
    part_of_first _ _ _ c.args.text.now (c.args.end.now ++ codes "\n") c.as_bytes.ensures.value
    c.in_err-write_all.ensures.prefix

pub returns-in_err-write_all-2-clause-line : goal.returns-in_err-write_all-2-clause-line
returns-in_err-write_all-2-clause-line g c =
    first_and_part _ _ _ _ c.args.text.now _ c.as_bytes.ensures.value c.in_ok-write_all.ensures.ok
    (part_of_first _ _ _ c.args.end.now (codes "\n") c.as_bytes-2.ensures.value
    c.in_err-write_all-2.ensures.prefix)

pub returns-clause-line : goal.returns-clause-line
returns-clause-line g c =
    first_and_part _ _ _ _ c.args.text.now _ c.as_bytes.ensures.value c.in_ok-write_all.ensures.ok
    (first_and_part _ _ _ _ c.args.end.now (codes "\n") c.as_bytes-2.ensures.value
    c.in_ok-write_all-2.ensures.ok c.write_all-3.ensures.prefix)

pub returns-clause-whole : goal.returns-clause-whole
returns-clause-whole g c =
    first_and_rest _ _ _ _ c.args.text.now (c.args.end.now ++ codes "\n") c.write_all-3.result
    c.as_bytes.ensures.value c.in_ok-write_all.ensures.ok
    (first_and_rest _ _ _ _ c.args.end.now (codes "\n") c.write_all-3.result
    c.as_bytes-2.ensures.value c.in_ok-write_all-2.ensures.ok c.write_all-3.ensures.ok)
