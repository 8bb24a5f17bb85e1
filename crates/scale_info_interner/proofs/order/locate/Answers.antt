use Rattle.std.proofs.Common.{◌≡◌, Some, map, slice_get, refl, sym, subst, ◌∙◌}
use Rattle.std.specs.declared.cmp.Ordering.TheVariants.{Equal}
use Rattle.std.proofs.lemmas.Option.{slice_get_read, slice_get_within, same_Some}
use Rattle.scale_info_interner.specs.ElementOrders.{against}
use Rattle.scale_info_interner.proofs.Chunks.{row_at, row_within}
use Rattle.scale_info_interner.proofs.Orders.{equal_index, gap_new, one_index}
use Rattle.scale_info_interner.proofs.order.locate.Goals as goal

pub returns-in-Ok-clause-found : goal.returns-in-Ok-clause-found
returns-in-Ok-clause-found g c =
    let found = c.in-Ok.ensures.found in
    let v = c.index-chunks-place.result in
    let i = c.in-Ok.place.chunk in
    let at = c.in-Ok.place.at in
    let there : slice_get c.args.chunks.now i ≡ Some v =
    slice_get_read c.args.chunks.now _ i v refl
    (row_within (λ w. w.items) c.args.chunks.now i found.chunk found.there) c.index-chunks-place.is in
    let chunk = row_at (λ w. w.items) c.args.chunks.now i v found.chunk there found.there in
    let here : slice_get v.items at ≡ Some found.index =
    subst (λ t. slice_get t at ≡ Some found.index) chunk found.here in
    let read : slice_get v.items at ≡ Some c.index.result.now =
    slice_get_read v.items _ at c.index.result.now refl
    (slice_get_within v.items at found.index here) c.index.ensures in
    let same = same_Some found.index c.index.result.now (sym here ∙ read) in
    equal_index g.met.T.Ord.total g.T.PartialEq.eq g.met.T.Ord.matches_eq c.args.elements.now
    c.args.value.now c.index.result.now
    (subst (λ j. against g.T.Ord.cmp c.args.elements.now c.args.value.now j ≡ Equal) same found.equal)

pub returns-in-Ok-clause-one : goal.returns-in-Ok-clause-one
returns-in-Ok-clause-one g c = λ i is.
    one_index g.met.T.Ord.total g.T.PartialEq.eq g.met.T.Ord.matches_eq c.args.elements.now
    (map (λ v. v.items) c.args.chunks.now) c.args.value.now c.index.result.now i
    c.requires (returns-in-Ok-clause-found g c) is

pub returns-in-Err-clause-new : goal.returns-in-Err-clause-new
returns-in-Err-clause-new g c =
    gap_new g.met.T.Ord.total g.T.PartialEq.eq g.met.T.Ord.matches_eq c.args.elements.now
    (map (λ v. v.items) c.args.chunks.now) c.args.value.now _ _ c.requires
    c.in-Err.ensures.absent
