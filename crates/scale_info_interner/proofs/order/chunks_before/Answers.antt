use Rattle.std.proofs.Common.{rules, ◌≡◌, ◌<◌, ◌+◌, ◌-◌, ◌/◌, map, subst, Some, slice_get, length}
use Rattle.std.proofs.Common.{arith, refl, sym, ◌∙◌, ap}
use Rattle.std.specs.declared.cmp.Ordering.TheVariants.{Greater}
use Rattle.std.proofs.lemmas.Option.{slice_get_read}
use Rattle.scale_info_interner.specs.ElementOrders.{first_against}
use Rattle.scale_info_interner.proofs.Chunks.{row_at}
use Rattle.scale_info_interner.proofs.order.chunks_before.Goals as goal

pub loop-low-preserved : goal.loop-low-preserved
loop-low-preserved g c =
    let v = c.index-chunks-middle.result in
    let kept = c.loop-low.invariant in
    let bound = kept.0 in
    let order = kept.1 in (
      kept.0,
      grind (arith, rules),
      (λ i chunk e p above.
          let middle = c.loop-low.low + (c.loop-low.high - c.loop-low.low) / 2 in
          let test = c.loop-low-test.true in
          let within : middle < length c.args.chunks.now = grind (arith, rules) in
          let there = slice_get_read c.args.chunks.now _ middle v refl within c.index-chunks-middle.is in
          let place : i ≡ middle = omega (arith, e) in
          let same : chunk ≡ v.items =
          row_at (λ w. w.items) c.args.chunks.now middle v chunk there
          (subst (λ n. slice_get (map (λ w. w.items) c.args.chunks.now) n ≡ Some chunk) place p) in
          let again : first_against g.T.Ord.cmp c.args.elements.now c.args.value.now c.deref.result.now ≡ Greater =
          ap (λ t. first_against g.T.Ord.cmp c.args.elements.now c.args.value.now t) (c.deref.ensures.value ∙ sym same) ∙ above in
          let yes = c.starts_above.ensures.1 again in
          let no = c.if-starts_above.false in
          cc),
      kept.3,
    )
