-- The members of a tuple.
use Rattle.std.proofs.Common.{◌≡◌, ℕ, zero, suc, ◌+◌, ◌<◌, ◌≤◌, arith, List, [], ◌∷◌, Option, Some, None, option_map, option_and_then, length, drop, refl, ap, sym, ◌∙◌, slice_get, subst}
use Rattle.std.proofs.lemmas.List.{drop_all}
use Rattle.std.proofs.lemmas.Option.{none-some, same_Some}
use Rattle.scale_info_value.specs.declared.value.Value.{Value}
use Rattle.scale_info_value_typed.specs.Meanings.{and_others, member_and, no_members}
use Rattle.scale_info_value_typed.proofs.AllOf.{left_at}

-- what the items from an index on are, by the first of them and the others
members_are :
    {A B : Type 0} (first : Value → Option A) (others : List Value → Option B) (found : Option (List Value)) (i : ℕ) (item : Value)
    → Some item ≡ option_and_then (λ all. slice_get all i) found
    → option_and_then (λ all. member_and first others (drop i all)) found
    ≡ and_others (first item) (option_and_then (λ all. others (drop (i + 1) all)) found)
members_are first others None i item h = absurd (none-some item (sym h))
members_are first others (Some all) i item h = ap (λ left. member_and first others left) (left_at all i item (sym h))

-- both are found
both_found :
    {A B : Type 0} (first : Option A) (others : Option B) (x : A) (xs : B)
    → first ≡ Some x → others ≡ Some xs → and_others first others ≡ Some (x, xs)
both_found first others x xs e h = (λ i. and_others (e i) (h i))

-- the first is missing
no_first : {A B : Type 0} (first : Option A) (others : Option B) → first ≡ None → and_others first others ≡ None
no_first first others e = ap (λ o. and_others o others) e

-- the others are missing
no_others :
    {A B : Type 0} (first : Option A) (others : Option B) (x : A)
    → first ≡ Some x → others ≡ None → and_others first others ≡ None
no_others first others x e h = (λ i. and_others (e i) (h i))

module _ {A B : Type 0} (first : Value → Option A) (others : List Value → Option B) (found : Option (List Value)) (i : ℕ)
    (item : Value) (at : Some item ≡ option_and_then (λ all. slice_get all i) found) where
  -- the items from an index on, as members
  abbrev from : Option (A × B)
  from = option_and_then (λ all. member_and first others (drop i all)) found

  -- those after it
  abbrev after : Option B
  after = option_and_then (λ all. others (drop (i + 1) all)) found

  -- they are members, where the first of them is one, and the others are
  pub both_are : (x : A) (xs : B) → first item ≡ Some x → after ≡ Some xs → from ≡ Some (x, xs)
  both_are x xs e h = members_are first others found i item at ∙ both_found (first item) after x xs e h

  -- they are none, where the first of them is none
  pub first_is_none : first item ≡ None → from ≡ None
  first_is_none none = members_are first others found i item at ∙ no_first (first item) after none

  -- nor are they, where the others are none
  pub others_are_none : (x : A) → first item ≡ Some x → after ≡ None → from ≡ None
  others_are_none x e none = members_are first others found i item at ∙ no_others (first item) after x e none

-- where none is left
pub at_end_of :
    {A B : Type 0} (others : List A → Option B) (found : Option (List A)) (n i : ℕ)
    → Some n ≡ option_map length found → n ≤ i → option_and_then (λ all. others (drop i all)) found ≡ others []
at_end_of others None n i e h = absurd (none-some n (sym e))
at_end_of others (Some all) n i e h =
    let short : length all ≤ i = subst (λ m. m ≤ i) (same_Some n (length all) e) h in
    ap others (drop_all i all short)

-- where one is left it is not the end
more_left : {A : Type 0} (all : List A) (i : ℕ) → i < length all → (x : A) × (slice_get all i ≡ Some x)
more_left [] i h = absurd (omega (arith, h))
more_left (x ∷ xs) zero h = (x, refl)
more_left (x ∷ xs) (suc i) h = more_left xs i (omega (arith, h))

-- and so there is one
pub some_left :
    {A : Type 0} (found : Option (List A)) (n i : ℕ)
    → Some n ≡ option_map length found → i < n → None ≡ option_and_then (λ all. slice_get all i) found → ⊥
some_left None n i e h none = none-some n (sym e)
some_left (Some all) n i e h none =
    let (x, is) = more_left all i (subst (λ m. i < m) (same_Some n (length all) e) h) in
    none-some x (none ∙ is)

-- where members are left they are not none
pub not_end :
    (found : Option (List Value)) (n i : ℕ)
    → Some n ≡ option_map length found → i < n → option_and_then (λ all. no_members (drop i all)) found ≡ None
not_end None n i e h = refl
not_end (Some all) n i e h =
    let (x, is) = more_left all i (subst (λ m. i < m) (same_Some n (length all) e) h) in
    ap no_members (left_at all i x is)

-- where the others are missing, all are
pub others_missing :
    {A : Type 0} (first : Option A) (others : Option (List A))
    → others ≡ None → option_map (λ both. both.0 ∷ both.1) (and_others first others) ≡ None
others_missing None others e = refl
others_missing (Some x) others e = ap (λ o. option_map (λ both. both.0 ∷ both.1) (and_others (Some x) o)) e
