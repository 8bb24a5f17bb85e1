use Rattle.std.proofs.Common.{rules, map, subst}
use Rattle.scale_info_interner.specs.Interned.{AreDistinctBy}
use Rattle.scale_info_interner.proofs.Orders.{order_distinct}
use Rattle.scale_info_interner.proofs.interner.Interner.elements.Goals as goal

pub returns-clause-distinct : goal.returns-clause-distinct
returns-clause-distinct g c =
    subst (λ xs. AreDistinctBy g.T.PartialEq.eq xs) c.self.view_is
    (order_distinct g.met.T.Ord.total g.T.PartialEq.eq g.met.T.Ord.matches_eq
    c.self.inside.elements.items (map (λ v. v.items) c.self.inside.chunks.items) c.self.invariant.0)

pub returns-clause-list : goal.returns-clause-list
returns-clause-list g c = search rules
