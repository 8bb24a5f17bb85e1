use Rattle.scale_info_passes.specs.Pieces.{HasVisitedItems}
use Rattle.scale_info_passes.proofs.list.pass_items.Given as goal

abbrev pub invariant-loop : goal.invariant-loop
invariant-loop g l =
    HasVisitedItems g.T.Pass.encodes g.T.Pass.references_of g.T.Pass.map_references g.V.Visitor.visited l.counter l.input l.rest l.fn.visitor l.visitor
