-- The items of a list, one after another.
use Rattle.std.proofs.Common.{◌≡◌, ℕ, ◌+◌, List, [], ◌∷◌, ◌++◌, Option, Some, None, option_map, option_and_then, map, ap, sym, ◌∙◌, slice_get, subst}
use Rattle.std.proofs.lemmas.List.{map-append}
use Rattle.std.proofs.lemmas.Option.{slice_get-map}
use Rattle.scale_info_value.specs.declared.value.Value.{Value}
use Rattle.scale_info_value_borrowed.specs.ValueParts.{items_in, item_in}
use Rattle.scale_info_value_typed.specs.Meanings.{all_of, list}
use Rattle.scale_info_value_typed.proofs.AllOf.{SoFar, at_next, at_missing}

-- what is found at an index of the items
pub item_is :
    (value item : Value) (items : List Value) (i : ℕ)
    → items_in value ≡ Some items → Some item ≡ item_in i value → slice_get items i ≡ Some item
item_is value item items i e h = sym (h ∙ ap (λ o. option_and_then (λ all. slice_get all i) o) e)

-- what an item is
meant_at :
    {A : Type 0} (meant : Value → Option A) (items : List Value) (i : ℕ) (item : Value) (found : Option A)
    → slice_get items i ≡ Some item → meant item ≡ found → slice_get (map meant items) i ≡ Some found
meant_at meant items i item found e h = slice_get-map meant items i ∙ ap (option_map meant) e ∙ ap (λ o. Some o) h

-- one more item is found
pub next_item :
    {T A : Type 0} (meant : Value → Option A) (seen : T → A) (items : List Value) (i : ℕ) (item : Value) (all new : List T) (x : T)
    → new ≡ all ++ x ∷ [] → slice_get items i ≡ Some item → meant item ≡ Some (seen x)
    → SoFar (map meant items) i (map seen all) → SoFar (map meant items) (i + 1) (map seen new)
next_item meant seen items i item all new x more e h far =
    subst (λ xs. SoFar (map meant items) (i + 1) xs) (sym (ap (map seen) more ∙ map-append seen all (x ∷ [])))
    (at_next (map meant items) i (seen x) (map seen all) (meant_at meant items i item (Some (seen x)) e h) far)

-- an item is none of the type, and so the list is none
pub no_item :
    {A : Type 0} (meant : Value → Option A) (value : Value) (items : List Value) (i : ℕ) (item : Value) (xs : List A)
    → items_in value ≡ Some items → slice_get items i ≡ Some item → SoFar (map meant items) i xs
    → meant item ≡ None → list meant value ≡ None
no_item meant value items i item xs is e far h =
    ap (λ o. option_and_then (λ all. all_of (map meant all)) o) is
    ∙ at_missing (map meant items) i xs (meant_at meant items i item None e h) far
