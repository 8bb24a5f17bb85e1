use Rattle.std.proofs.Common.{rules, ◌≡◌, ◌++◌, ◌∷◌, [], ◌-◌, Some, map, length, slice_get, suc}
use Rattle.std.proofs.Common.{refl, ap, subst, ◌∙◌}
use Rattle.std.proofs.lemmas.Option.{slice_get_within}
use Rattle.scale_info_interner.specs.ElementOrders.{IsElementOrder, IsFoundAt, after}
use Rattle.scale_info_interner.proofs.LastElement.{last_taken}
use Rattle.scale_info_interner.proofs.Orders.{equal_index, one_index, last_index, after_at}
use Rattle.scale_info_interner.proofs.Orders.{gap_absent}
use Rattle.std.specs.Ordering.{is_eq}
use Rattle.std.proofs.lemmas.Cmp.{tied_itself}
use Rattle.scale_info_interner.proofs.Orders.{order_pop}
use Rattle.scale_info_interner.proofs.interner.drop_last.Goals as goal

pub unreachable-requires : goal.unreachable-requires
unreachable-requires g c =
    let xs = c.args.elements.now.items in
    let x = c.in-Some.last.now in
    let place = c.in_default-find.field-0 in
    let here : slice_get xs (length xs - 1) ≡ Some x = search rules in
    let equal = g.met.T.Ord.matches_eq x x ∙ ap is_eq (tied_itself g.met.T.Ord.total x) in
    gap_absent g.met.T.Ord.total g.T.PartialEq.eq g.met.T.Ord.matches_eq c.deref-2.result.now xs xs
    (map (λ v. v.items) c.deref-3.result.now) (map (λ v. v.items) c.args.chunks.now.items) x
    place.chunk place.at c.deref-2.ensures.value refl
    (ap (λ cs. map (λ v. v.items) cs) c.deref-3.ensures.value) c.requires
    c.in_default-find.ensures.absent (length xs - 1, (x, here, equal))

pub remove-requires : goal.remove-requires
remove-requires g c =
    let found = c.in-Ok.ensures.found in
    let there : slice_get (map (λ v. v.items) c.args.chunks.now.items) c.in-Ok.place.chunk ≡ Some found.chunk =
    subst (λ cs. slice_get (map (λ v. v.items) cs) c.in-Ok.place.chunk ≡ Some found.chunk)
    c.deref-3.ensures.value found.there in
    (found.chunk, there, slice_get_within found.chunk c.in-Ok.place.at found.index found.here)

pub returns-clause-order : goal.returns-clause-order
returns-clause-order g c =
    let xs = c.pop.new.self.items in
    let x = c.in-Some.last.now in
    let chunks = map (λ v. v.items) c.args.chunks.now.items in
    let place = c.in-Ok.place in
    let split : c.args.elements.now.items ≡ xs ++ x ∷ [] =
    last_taken c.args.elements.now.items xs c.pop.result x c.pop.ensures.items (search rules) (search rules) in
    let found : IsFoundAt g.T.Ord.cmp (xs ++ x ∷ []) chunks x place.chunk place.at =
    subst (λ v. IsFoundAt g.T.Ord.cmp v chunks x place.chunk place.at)
    (c.deref-2.ensures.value ∙ split)
    (subst (λ v. IsFoundAt g.T.Ord.cmp c.deref-2.result.now v x place.chunk place.at)
    (ap (λ cs. map (λ v. v.items) cs) c.deref-3.ensures.value) c.in-Ok.ensures.found) in
    let order : IsElementOrder g.T.Ord.cmp (xs ++ x ∷ []) chunks =
    subst (λ v. IsElementOrder g.T.Ord.cmp v chunks) split c.requires in
    let eq = g.T.PartialEq.eq in
    let ties = g.met.T.Ord.matches_eq in
    let index =
    one_index g.met.T.Ord.total eq ties (xs ++ x ∷ []) chunks x found.index (length xs) order
    (equal_index g.met.T.Ord.total eq ties (xs ++ x ∷ []) x found.index found.equal)
    (last_index g.met.T.Ord.total eq ties xs x) in
    let first = after_at chunks place.chunk place.at found.index found.chunk found.there found.here in
    let rest = after chunks place.chunk (suc place.at) in
    rw c.narrow.ensures.items
    (order_pop g.met.T.Ord.total xs x chunks (map (λ v. v.items) c.merge_small.new.chunks.items)
    place.chunk place.at rest order (first ∙ ap (λ i. i ∷ rest) index)
    (c.merge_small.ensures.filled (c.remove.ensures.filled order.filled))
    (c.merge_small.ensures.joined ∙ c.remove.ensures.joined found.index rest first))
