use Rattle.std.proofs.Common.{rules, ◌≡◌, ◌+◌, Some, slice_get, sym, ◌∙◌, subst, arith}
use Rattle.std.specs.declared.cmp.Ordering.TheVariants.{Greater}
use Rattle.std.proofs.lemmas.Grind.{common_steps}
use Rattle.std.proofs.lemmas.Option.{gets}
use Rattle.scale_info_interner.specs.ElementOrders.{first_against}
use Rattle.scale_info_interner.proofs.Chunks.{row_at, row_within}
use Rattle.scale_info_interner.proofs.order.ends_below.Goals as goal

pub returns-in-Some : goal.returns-in-Some
returns-in-Some g c = λ next yes p.
    let there : slice_get c.args.chunks.now (c.args.chunk + 1) ≡ Some c.in-Some.next.now =
    grind (arith, common_steps, gets, rules, c.in-Some.ensures.lookup) in
    let same = row_at (λ v. v.items) c.args.chunks.now (c.args.chunk + 1) c.in-Some.next.now next there p in
    subst (λ t. first_against g.T.Ord.cmp c.args.elements.now c.args.value.now t ≡ Greater)
    (c.deref.ensures.value ∙ sym same) (c.starts_above.ensures.0 yes)

pub returns-in-None : goal.returns-in-None
returns-in-None g c = λ next yes p.
    let within = row_within (λ v. v.items) c.args.chunks.now (c.args.chunk + 1) next p in
    absurd (grind (arith, common_steps, rules, c.in-None.ensures, within))
