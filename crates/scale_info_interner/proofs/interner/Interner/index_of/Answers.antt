use Rattle.std.proofs.Common.{Some, sym, ap, subst, ◌∙◌}
use Rattle.std.proofs.lemmas.Option.{same_Some}
use Rattle.scale_info_interner.specs.Interned.{IsIndexOf}
use Rattle.scale_info_interner.proofs.interner.Interner.index_of.Goals as goal

pub returns-in-Ok-clause-index : goal.returns-in-Ok-clause-index
returns-in-Ok-clause-index g c = λ i.
    let eq = g.T.PartialEq.eq in
    let x = c.args.value.now in
    let same = c.deref.ensures.value ∙ c.self.view_is in (
      (λ e. subst (λ j. IsIndexOf eq c.args.self.now x j) (same_Some c.in-Ok.index i e)
          (subst (λ xs. IsIndexOf eq xs x c.in-Ok.index) same c.in-Ok.ensures.found)),
      (λ k. ap Some (c.in-Ok.ensures.one i (subst (λ xs. IsIndexOf eq xs x i) (sym same) k))),
    )
