use Rattle.std.proofs.Common.{List, map, subst, sym}
use Rattle.scale_info_table_diff.proofs.Encoded.{one_table}
use Rattle.scale_info_table_docs.specs.WithoutDocs.{entry_without_docs}
use Rattle.scale_info_grammar.specs.Ty.{EncodesTypes}
use Rattle.scale_info_types.specs.declared.ty.PortableType.{PortableType}
use Rattle.type_reader_run.specs.Differences.{compared}
use Rattle.type_reader_run.proofs.reason.compared_bytes.Goals as goal

pub returns-in-Ok-clause-ok : goal.returns-in-Ok-clause-ok
returns-in-Ok-clause-ok c = λ types x.
    let written = c.in-Ok.ensures.ok in
    subst (λ docs. EncodesTypes (compared docs types) c.in-Ok.bytes.items) (sym c.in-LeftOut.is)
    (subst (λ (ts : List PortableType). EncodesTypes (map entry_without_docs ts) c.in-Ok.bytes.items)
    (one_table written.types types c.args.table.now written.encodes x) written.written)
