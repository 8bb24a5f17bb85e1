use Rattle.std.proofs.Common.{rules, sym}
use Rattle.scale_info_table_dot.proofs.Edges.{edges_of, no_edges}
use Rattle.scale_info_table_dot.proofs.lines.append_references.Goals as goal

pub returns-in-None-clause-ok : goal.returns-in-None-clause-ok
returns-in-None-clause-ok c =
    rw (no_edges c.args.digits.now c.args.table.now.types c.args.id c.in-None.ensures) (search rules)

pub returns-in_ok-references_of-in-Some-clause-ok : goal.returns-in_ok-references_of-in-Some-clause-ok
returns-in_ok-references_of-in-Some-clause-ok c =
    rw (sym (edges_of c.args.digits.now c.args.table.now.types c.args.id c.in-Some.ty.now
    c.in_ok-references_of-in-Some.field-0.items c.in-Some.ensures c.in_ok-references_of-in-Some.ensures))
    (search rules)
