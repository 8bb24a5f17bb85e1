-- From what `from_iter` promises to what an iterator gives, and what the iterator of a vector gives.
use Rattle.std.proofs.Common.{◌≡◌, ◌∙◌, List, Option, length, refl, subst, sym}
use Rattle.std.proofs.lemmas.Iterator.Adapters.{YieldsList-from_vec}
use Rattle.std.proofs.lemmas.Iterator.Consumers.{YieldsList-end}
use Rattle.std.proofs.lemmas.List.{map-id}
use Rattle.std.specs.Bool.{⊤}
use Rattle.std.specs.Iterator.{DrainsIf, Drains}
use Rattle.std.specs.Vec.Iter.{into_iter_items, into_iter_len, into_iter_steps}
use Rattle.std.specs.declared.vec.IntoIter.{IntoIter}
use Rattle.scale_info_types.specs.Iterators.{GivesAll}

-- an iterator made as `from_iter` promises gives all its items
pub gives_all :
    {I S A : Type 0} (into : I → S → Type 0) (next : S → Option A → S → Type 0) (source : I)
    (items : List A)
    → (iterator : S) × (given : List A) × into source iterator × DrainsIf next ⊤ iterator given
    × (items ≡ given)
    → GivesAll into next source items
gives_all into next source items (iterator, given, made, (last, yielded, ends), same) =
    let whole : Drains next iterator given = let e = ends tt in (e.0, (last, yielded, e.1)) in
    (iterator, made, subst (λ xs. Drains next iterator xs) (sym same) whole)

-- the iterator of a vector gives its items and no more
pub drained :
    {X Z : Type 0} (s : IntoIter X Z) (items given : List X)
    → into_iter_items s ≡ items → into_iter_len s ≡ length items
    → Drains into_iter_steps s given → given ≡ items
drained s items given has count (last, (t, yielded, ends)) =
    sym (map-id given) ∙ (YieldsList-end (YieldsList-from_vec items has count) given t yielded _ last refl ends).0
