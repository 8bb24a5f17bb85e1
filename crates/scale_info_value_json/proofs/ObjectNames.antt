-- Names that are put into a map, the last first.
use Rattle.std.proofs.Common.{◌≡◌, ◌||◌, ◌&&◌, not, Bool, true, false, ℕ, List, [], ◌∷◌, ◌++◌}
use Rattle.std.proofs.Common.{Option, Some, None, map, refl, sym, ap, ◌∙◌, cond, ◌≤◌, ◌-◌, suc, length}
use Rattle.std.proofs.Common.{take, get_or, arith, append_assoc}
use Rattle.std.proofs.lemmas.List.{map-append}
use Rattle.std.specs.Option.{is_some}
use Rattle.std.specs.Str.{bytes_eq}
use Rattle.scale_info_value_visit.specs.Events.{all_named}
use Rattle.scale_info_value_json.specs.TreeParts.{are_distinct, has_name, is_object_of}

-- whether the map has a name, as what is found under it
abbrev pub found : Bool → Option (Unit {0})
found is = cond is (Some tt) None

-- with a false part a conjunction is false
both_false : (b : Bool) → (b && false) ≡ false
both_false true = refl
both_false false = refl

-- fields of which some have no name, or one that comes twice, are no members of an object
pub not_suffix :
    (xs ys : List (Option (List ℕ))) → is_object_of ys ≡ false → is_object_of (xs ++ ys) ≡ false
not_suffix [] ys e = e
not_suffix (None ∷ xs) ys e = refl
not_suffix (Some x ∷ xs) ys e = by (has_name (Some x) (xs ++ ys)) (not_suffix xs ys e)
  where
    by : (h : Bool) → (all_named (xs ++ ys) && are_distinct (xs ++ ys)) ≡ false
        → (all_named (xs ++ ys) && (not h && are_distinct (xs ++ ys))) ≡ false
    by true e = both_false (all_named (xs ++ ys))
    by false e = e

-- a list is what is before its last element, and that element
pub split_last :
    {A : Type 0} (xs : List A) (d : A) → 1 ≤ length xs
    → xs ≡ take (length xs - 1) xs ++ get_or xs (length xs - 1) d ∷ []
split_last [] d l = absurd (omega arith)
split_last (x ∷ []) d l = refl
split_last (x ∷ y ∷ ys) d l =
    let shorter = split_last (y ∷ ys) d (omega arith) in
    let n : length (x ∷ y ∷ ys) - 1 ≡ suc (length (y ∷ ys) - 1) = omega arith in
    ap (λ t. x ∷ t) shorter
    ∙ ap (λ k. take k (x ∷ y ∷ ys) ++ get_or (x ∷ y ∷ ys) k d ∷ []) (sym n)

-- a name that is among those after it comes twice
twice_of : (name : List ℕ) (others : List (Option (List ℕ))) → has_name (Some name) others ≡ true
    → is_object_of (Some name ∷ others) ≡ false
twice_of name others h =
    ap (λ b. all_named others && (not b && are_distinct others)) h ∙ both_false (all_named others)

-- where something is found, the map has the name
pub has_found : (is : Bool) → is_some (found is) ≡ true → is ≡ true
has_found true e = refl
has_found false e = cc

-- where nothing is found, the map has not the name
pub has_not_found : (is : Bool) → is_some (found is) ≡ false → is ≡ false
has_not_found true e = cc
has_not_found false e = refl

-- what may have names, each by this function
module _ {A : Type 0} (named : A → Option (List ℕ)) where
  -- the names of some
  abbrev pub names_of : List A → List (Option (List ℕ))
  names_of fields = map named fields

  -- fields, where some that end with a field, and the others, are given
  pub regrouped :
      (fields rest after : List A) (field : A) → fields ≡ rest ++ after → 1 ≤ length rest
      → get_or rest (length rest - 1) field ≡ field → fields ≡ take (length rest - 1) rest ++ field ∷ after
  regrouped fields rest after field e some last =
      let before = take (length rest - 1) rest in
      e ∙ ap (λ t. t ++ after) (split_last rest field some ∙ ap (λ f. before ++ f ∷ []) last)
      ∙ append_assoc before (field ∷ []) after

  names_join :
      (before : List A) (field : A) (after : List A)
      → names_of (before ++ field ∷ after) ≡ names_of before ++ named field ∷ names_of after
  names_join before field after = map-append named before (field ∷ after)

  -- names among which a suffix is no names of members are none
  by_suffix :
      (fields rest after : List A) (field : A) (name : Option (List ℕ)) → fields ≡ rest ++ after → 1 ≤ length rest
      → get_or rest (length rest - 1) field ≡ field → named field ≡ name → is_object_of (name ∷ names_of after) ≡ false
      → is_object_of (names_of fields) ≡ false
  by_suffix fields rest after field name e some last is none =
      let before = take (length rest - 1) rest in
      ap (λ t. is_object_of (names_of t)) (regrouped fields rest after field e some last)
      ∙ ap is_object_of (names_join before field after)
      ∙ ap (λ n. is_object_of (names_of before ++ n ∷ names_of after)) is
      ∙ not_suffix (names_of before) (name ∷ names_of after) none

  -- some fields of which one has no name are no members of an object
  pub nameless :
      (fields rest after : List A) (field : A) → fields ≡ rest ++ after → 1 ≤ length rest
      → get_or rest (length rest - 1) field ≡ field → named field ≡ None → is_object_of (names_of fields) ≡ false
  nameless fields rest after field e some last is = by_suffix fields rest after field None e some last is refl

  -- some fields of which one has a name that a later one has are no members of an object
  pub twice :
      (fields rest after : List A) (field : A) (name : List ℕ) → fields ≡ rest ++ after → 1 ≤ length rest
      → get_or rest (length rest - 1) field ≡ field → named field ≡ Some name
      → has_name (Some name) (names_of after) ≡ true → is_object_of (names_of fields) ≡ false
  twice fields rest after field name e some last is h =
      by_suffix fields rest after field (Some name) e some last is (twice_of name (names_of after) h)

  -- a field with a name of its own before members of an object
  pub one_more :
      (field : A) (after : List A) (name : List ℕ) → named field ≡ Some name
      → is_object_of (names_of after) ≡ true → has_name (Some name) (names_of after) ≡ false
      → is_object_of (names_of (field ∷ after)) ≡ true
  one_more field after name some is h =
      ap (λ n. is_object_of (n ∷ names_of after)) some
      ∙ ap (λ b. all_named (names_of after) && (not b && are_distinct (names_of after))) h ∙ is

  -- what is found under a name in the map with one more
  pub found_more :
      (field : A) (after : List A) (name : List ℕ) → named field ≡ Some name
      → (q : List ℕ)
      → cond (bytes_eq name q) (Some tt) (found (has_name (Some q) (names_of after)))
      ≡ found (has_name (Some q) (names_of (field ∷ after)))
  found_more field after name some q =
      by (bytes_eq name q) (has_name (Some q) (names_of after))
      ∙ ap (λ n. found (has_name (Some q) (n ∷ names_of after))) (sym some)
    where
      by : (a b : Bool) → cond a (Some tt) (found b) ≡ found (a || b)
      by true b = refl
      by false b = refl

  -- some that end with others of which each has a name of its own; and the map, which finds this
  -- under each name, has the names of these
  pub record IsSplit (fields rest : List A) (in_map : List ℕ → Option (Unit {0})) : Type 0 where
    pub after : List A
    pub parts : fields ≡ rest ++ after
    pub own : is_object_of (names_of after) ≡ true
    pub finds : (q : List ℕ) → in_map q ≡ found (has_name (Some q) (names_of after))
