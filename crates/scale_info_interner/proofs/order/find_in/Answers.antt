use Rattle.std.proofs.Common.{rules, ◌≡◌, ◌+◌, Some, suc, map, slice_get, arith, sym, subst, ◌∙◌}
use Rattle.std.proofs.lemmas.Grind.{common_steps}
use Rattle.std.proofs.lemmas.Option.{gets}
use Rattle.scale_info_interner.proofs.Orders.{gap_here}
use Rattle.scale_info_interner.proofs.Chunks.{row_there}
use Rattle.scale_info_interner.proofs.order.find_in.Goals as goal
use Rattle.scale_info_interner.proofs.order.find_in.Goals.{then-chunk-eq0, else-chunk-eq0}
use Rattle.scale_info_interner.proofs.order.find_in.Goals.{then-at-len, else-at-len}

pub returns-then-ends_below-clause-absent : goal.returns-then-ends_below-clause-absent
returns-then-ends_below-clause-absent g c =
    let v = c.in_ok-indices.indices.now in
    let held : slice_get c.args.chunks.now c.args.chunk ≡ Some v =
    grind (arith, common_steps, gets, rules, c.in_ok-indices.ensures.lookup) in
    let there = row_there (λ w. w.items) c.args.chunks.now c.args.chunk v held in
    let is = c.deref.ensures.value in
    gap_here g.met.T.Ord.total c.args.elements.now (map (λ w. w.items) c.args.chunks.now)
    c.args.value.now c.args.chunk c.in-Err.at v.items c.requires there
    (rw (← is) c.in-Err.ensures.bound)
    (λ i index e p. c.in-Err.ensures.less i index e (rw is p))
    (λ index p. c.in-Err.ensures.greater index (rw is p))
    (λ i e. elim c.if-chunk-eq0.branch [
      | then-chunk-eq0 w ↦ let first = w.if-chunk-eq0.true in omega (arith, first, e)
      | else-chunk-eq0 w ↦ grind (arith, rules, w.is_above_others-is, c.if-is_above_others.true)
    ])
    (λ next long p. elim c.if-at-len.branch [
      | then-at-len w ↦ absurd (grind (arith, rules, w.if-at-len.true, c.len.ensures, long))
      | else-at-len w ↦
          let step : suc c.args.chunk ≡ c.args.chunk + 1 = omega arith in
          w.ends_below.ensures next (sym w.value-is ∙ c.if-ends_below.true)
          (subst (λ n. slice_get (map (λ w. w.items) c.args.chunks.now) n ≡ Some next) step p)
    ])
