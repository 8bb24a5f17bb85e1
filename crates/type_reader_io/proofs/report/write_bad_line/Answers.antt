use Rattle.std.proofs.Common.{◌∙◌, ◌++◌, codes, decimal, refl}
use Rattle.type_table_io.proofs.LineParts.{part_of_first, first_and_part, first_and_rest}
use Rattle.type_table_io.specs.Lines.{line_with}
use Rattle.type_reader_io.specs.Lines.{fault_text}
use Rattle.type_reader_io.proofs.report.write_bad_line.Goals as goal

pub returns-in_err-write_all-clause-line : goal.returns-in_err-write_all-clause-line
returns-in_err-write_all-clause-line g c =
    let end = line_with (codes ": no value: ") (fault_text c.args.fault) in
    part_of_first _ _ _ (codes "type_reader: line ") (decimal c.args.number ++ end) refl
    c.in_err-write_all.ensures.prefix

pub returns-in_err-write_all-2-clause-line : goal.returns-in_err-write_all-2-clause-line
returns-in_err-write_all-2-clause-line g c =
    let end = line_with (codes ": no value: ") (fault_text c.args.fault) in
    first_and_part _ _ _ _ (codes "type_reader: line ") (decimal c.args.number ++ end) refl
    c.in_ok-write_all.ensures.ok
    (part_of_first _ _ _ (decimal c.args.number) end
    (c.as_bytes.ensures.value ∙ c.format.ensures.text) c.in_err-write_all-2.ensures.prefix)

pub returns-clause-line : goal.returns-clause-line
returns-clause-line g c =
    let end = line_with (codes ": no value: ") (fault_text c.args.fault) in
    first_and_part _ _ _ _ (codes "type_reader: line ") (decimal c.args.number ++ end) refl
    c.in_ok-write_all.ensures.ok
    (first_and_part _ _ _ _ (decimal c.args.number) end
    (c.as_bytes.ensures.value ∙ c.format.ensures.text) c.in_ok-write_all-2.ensures.ok
    (rw c.fault_text.ensures at c.write_line.ensures.line))

pub returns-clause-whole : goal.returns-clause-whole
returns-clause-whole g c =
    let end = line_with (codes ": no value: ") (fault_text c.args.fault) in
    first_and_rest _ _ _ _ (codes "type_reader: line ") (decimal c.args.number ++ end)
    c.write_line.result refl c.in_ok-write_all.ensures.ok
    (first_and_rest _ _ _ _ (decimal c.args.number) end c.write_line.result
    (c.as_bytes.ensures.value ∙ c.format.ensures.text) c.in_ok-write_all-2.ensures.ok
    (rw c.fault_text.ensures at c.write_line.ensures.whole))
