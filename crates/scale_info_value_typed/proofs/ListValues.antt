-- What stands for the items of a list.
use Rattle.std.proofs.Common.{◌≡◌, ℕ, zero, suc, ◌+◌, ◌<◌, ◌≤◌, arith, List, [], ◌∷◌, ◌++◌, Option, Some, None, option_map, option_and_then, map, length, get_or, take, refl, ap, sym, ◌∙◌, slice_get, subst}
use Rattle.std.proofs.lemmas.List.{map-append, take_more, take_all}
use Rattle.std.proofs.lemmas.Option.{none-some, same_Some, slice_get-get_or}
use Rattle.scale_info_table.specs.declared.portable.PortableRegistry.{PortableRegistry}
use Rattle.scale_info_value.specs.declared.value.Value.{Value}
use Rattle.scale_info_value.specs.declared.value.Value.TheVariants as Values
use Rattle.scale_info_value.specs.declared.value.Value.TheVariants.{outs-List}
use Rattle.scale_info_value_borrowed.specs.ValueParts.{items_at}
use Rattle.scale_info_value_typed.specs.declared.place.Place.{Place}
use Rattle.scale_info_value_typed.specs.Meanings.{all_of, list}
use Rattle.scale_info_value_typed.specs.Places.{part_at}
use Rattle.scale_info_value_typed.specs.StandingValues.{Standing, each_at, list_at}
use Rattle.scale_info_value_typed.proofs.AllOf.{SoFar, at_next, at_missing, at_end, with_next}

-- what stands for the item at an index, where the first has another
stands_at :
    {A : Type 0} (value_at : Standing A) (table : PortableRegistry) (place : Place) (n i : ℕ) (xs : List A) (x : A)
    → slice_get xs i ≡ Some x
    → slice_get (each_at value_at table place n xs) i ≡ Some (value_at table (part_at table place (n + i)) x)
stands_at value_at table place n i [] x e = absurd (none-some x e)
stands_at value_at table place n zero (y ∷ ys) x e =
    let same : n ≡ n + 0 = omega arith in
    ap (λ z. Some (value_at table (part_at table place n) z)) (same_Some y x e)
    ∙ ap (λ k. Some (value_at table (part_at table place k) x)) same
stands_at value_at table place n (suc i) (y ∷ ys) x e =
    let same : n + 1 + i ≡ n + suc i = omega arith in
    stands_at value_at table place (n + 1) i ys x e ∙ ap (λ k. Some (value_at table (part_at table place k) x)) same

-- what stands for an item of the list
standing :
    {A : Type 0} (value_at : Standing A) (table : PortableRegistry) (place : Place) (i : ℕ) (xs : List A) (x : A)
    → i < length xs → x ≡ get_or xs i x
    → slice_get (each_at value_at table place 0 xs) i ≡ Some (value_at table (part_at table place i) x)
standing value_at table place i xs x less is =
    let same : 0 + i ≡ i = omega arith in
    stands_at value_at table place 0 i xs x (slice_get-get_or xs i x less ∙ ap (λ y. Some y) (sym is))
    ∙ ap (λ k. Some (value_at table (part_at table place k) x)) same

-- one more item has a value
pub next_stands :
    {A : Type 0} (value_at : Standing A) (table : PortableRegistry) (place : Place) (i : ℕ) (xs : List A) (x : A)
    (values new : List Value) (value : Value)
    → new ≡ values ++ value ∷ [] → i < length xs → x ≡ get_or xs i x
    → value_at table (part_at table place i) x ≡ Some value → SoFar (each_at value_at table place 0 xs) i values
    → SoFar (each_at value_at table place 0 xs) (i + 1) new
next_stands value_at table place i xs x values new value more less is e far =
    subst (λ all. SoFar (each_at value_at table place 0 xs) (i + 1) all) (sym more)
    (at_next (each_at value_at table place 0 xs) i value values
    (standing value_at table place i xs x less is ∙ ap (λ o. Some o) e) far)

-- an item has no value, and so the list has none
pub none_stands :
    {A : Type 0} (value_at : Standing A) (table : PortableRegistry) (place : Place) (i : ℕ) (xs : List A) (x : A)
    (values : List Value)
    → i < length xs → x ≡ get_or xs i x → SoFar (each_at value_at table place 0 xs) i values
    → value_at table (part_at table place i) x ≡ None → list_at value_at table place xs ≡ None
none_stands value_at table place i xs x values less is far e =
    ap (λ o. option_map Values.List o)
    (at_missing (each_at value_at table place 0 xs) i values
    (standing value_at table place i xs x less is ∙ ap (λ o. Some o) e) far)

-- the values so far are the items so far
pub next_meant :
    {T A : Type 0} (meant : Value → Option A) (seen : T → A) (xs : List T) (i : ℕ) (x : T) (values new : List Value) (value : Value)
    → new ≡ values ++ value ∷ [] → i < length xs → x ≡ get_or xs i x → meant value ≡ Some (seen x)
    → all_of (map meant values) ≡ Some (map seen (take i xs))
    → all_of (map meant new) ≡ Some (map seen (take (i + 1) xs))
next_meant meant seen xs i x values new value more less is e so_far =
    ap all_of (ap (map meant) more ∙ map-append meant values (value ∷ []) ∙ ap (λ o. map meant values ++ o ∷ []) e)
    ∙ with_next (map meant values) (map seen (take i xs)) (seen x) so_far
    ∙ ap (λ all. Some all)
    (sym (map-append seen (take i xs) (x ∷ []))
    ∙ ap (map seen) (ap (λ y. take i xs ++ y ∷ []) is ∙ sym (take_more xs i x less)))

-- as many stand as there are items
many : {A : Type 0} (value_at : Standing A) (table : PortableRegistry) (place : Place) (n : ℕ) (xs : List A)
    → length (each_at value_at table place n xs) ≡ length xs
many value_at table place n [] = refl
many value_at table place n (x ∷ xs) = ap suc (many value_at table place (n + 1) xs)

-- all items have values
pub all_stand :
    {A : Type 0} (value_at : Standing A) (table : PortableRegistry) (place : Place) (i : ℕ) (xs : List A) (values : List Value)
    → length xs ≤ i → SoFar (each_at value_at table place 0 xs) i values
    → list_at value_at table place xs ≡ Some (Values.List values)
all_stand value_at table place i xs values short far =
    let end : length (each_at value_at table place 0 xs) ≤ i = subst (λ n. n ≤ i) (sym (many value_at table place 0 xs)) short in
    ap (λ o. option_map Values.List o) (at_end (each_at value_at table place 0 xs) i values end far)

-- and they are the items
pub all_meant :
    {T A : Type 0} (meant : Value → Option A) (seen : T → A) (xs : List T) (i : ℕ) (values : List Value)
    → length xs ≤ i → all_of (map meant values) ≡ Some (map seen (take i xs))
    → list meant (Values.List values) ≡ Some (map seen xs)
all_meant meant seen xs i values short e =
    ap (λ o. option_and_then (λ items. all_of (map meant items)) o) (ap items_at (outs-List values))
    ∙ e ∙ ap (λ all. Some (map seen all)) (take_all i xs short)
