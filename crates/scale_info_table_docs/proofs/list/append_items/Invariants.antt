use Rattle.scale_info_table_docs.specs.Changes.{AppendsChangedItems}
use Rattle.scale_info_table_docs.proofs.list.append_items.Given as goal

abbrev pub invariant-loop : goal.invariant-loop
invariant-loop g l =
    AppendsChangedItems g.T.WithoutDocs.encodes g.T.WithoutDocs.without_docs l.counter l.input l.rest
    l.fn.out.items l.out.items
