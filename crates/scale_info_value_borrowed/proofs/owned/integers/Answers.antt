use Rattle.std.proofs.Common.{◌≡◌, ℕ, ◌+◌, List, [], ◌∷◌, ◌++◌, Some, take, ap, sym, ◌∙◌}
use Rattle.std.proofs.lemmas.List.{take_more}
use Rattle.std.proofs.lemmas.Option.{slice_get_within, get_or_from_slice_get}
use Rattle.std.proofs.Common.{slice_get}
use Rattle.scale_info_value_borrowed.specs.IntegerLists.{integers_of}
use Rattle.scale_info_value_borrowed.proofs.owned.integers.Goals as goal

-- one item more of a list
one_more :
    {A : Type 0} (all : List A) (i : ℕ) (done : List A) (v : A)
    → done ≡ take i all → slice_get all i ≡ Some v → done ++ v ∷ [] ≡ take (i + 1) all
one_more all i done v e h =
    ap (λ l. l ++ v ∷ []) e
    ∙ ap (λ w. take i all ++ w ∷ []) (sym (get_or_from_slice_get all i v v h))
    ∙ sym (take_more all i v (slice_get_within all i v h))

pub loop-index-preserved : goal.loop-index-preserved
loop-index-preserved c =
    let value = c.integer_value.result in
    rw c.in_ok-push.ensures.list
    (one_more (integers_of c.args.all.now) c.loop-index.index c.loop-index.copies value c.loop-index.invariant
    (c.item.ensures ∙ ap (λ v. Some v) (sym c.integer_value.ensures)))
