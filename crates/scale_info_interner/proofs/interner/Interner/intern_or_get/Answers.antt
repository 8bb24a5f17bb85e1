use Rattle.std.proofs.Common.{refl, sym, subst, ◌∙◌}
use Rattle.scale_info_interner.specs.Interned.{IsIndexOf}
use Rattle.scale_info_interner.proofs.Orders.{last_index}
use Rattle.scale_info_interner.proofs.interner.Interner.intern_or_get.Goals as goal

pub returns-in-Ok-clause-known : goal.returns-in-Ok-clause-known
returns-in-Ok-clause-known g c = λ i k.
    let same = c.deref.ensures.value ∙ c.self.view_is in
    let there = subst (λ xs. IsIndexOf g.T.PartialEq.eq xs c.args.value i) (sym same) k in
    (refl, (refl, c.from.ensures ∙ c.in-Ok.ensures.one i there), refl)

pub returns-clause-ok : goal.returns-clause-ok
returns-clause-ok g c =
    rw (c.in_ok-symbol.ensures.ok.1, c.in_ok-symbol.ensures.ok.0)
    (last_index g.met.T.Ord.total g.T.PartialEq.eq g.met.T.Ord.matches_eq
    c.self.inside.elements.items c.args.value)
