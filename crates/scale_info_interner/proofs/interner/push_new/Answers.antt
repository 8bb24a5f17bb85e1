use Rattle.std.proofs.Common.{◌≡◌, ◌≢◌, ◌++◌, ◌∷◌, [], length, map, rules}
use Rattle.std.specs.List.{All, concat}
use Rattle.scale_info_interner.specs.ElementOrders.{before, after}
use Rattle.scale_info_interner.proofs.Orders.{order_push}
use Rattle.scale_info_interner.proofs.interner.push_new.Goals as goal

pub returns-clause-order : goal.returns-clause-order
returns-clause-order g c =
    let xs = c.args.elements.now.items in
    let chunks = map (λ v. v.items) c.args.chunks.now.items in
    let made = map (λ v. v.items) c.split_full.new.chunks.items in
    let place = c.args.place in
    let had = c.requires.order.filled in
    let filled : All (λ v. v ≢ []) made = search rules in
    let joined :
    concat made ≡ before chunks place.chunk place.at ++ length xs ∷ after chunks place.chunk place.at =
    search rules in
    rw c.in_ok-push.ensures.items
    (order_push g.met.T.Ord.total xs c.args.value chunks made place.chunk place.at c.requires.order
    c.requires.place filled joined)
