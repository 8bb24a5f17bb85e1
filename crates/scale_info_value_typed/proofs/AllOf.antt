-- Values that are all there, or of which one is missing.
use Rattle.std.proofs.Common.{◌≡◌, ℕ, zero, suc, ◌+◌, ◌≤◌, List, [], ◌∷◌, ◌++◌, Option, Some, None, option_map, length, drop, refl, ap, sym, ◌∙◌, slice_get, append_assoc, arith}
use Rattle.std.proofs.lemmas.List.{append-nil, drop_all}
use Rattle.std.proofs.lemmas.Option.{none-some, same_Some}
use Rattle.scale_info_value_typed.specs.Meanings.{all_of, and_others}

-- all of them are there, if those from an index on are: these come before them
abbrev pub SoFar : {A : Type 0} → List (Option A) → ℕ → List A → Type 0
SoFar all i xs = all_of all ≡ option_map (λ more. xs ++ more) (all_of (drop i all))

-- with nothing before them
nothing_before : {A : Type 0} (found : Option (List A)) → found ≡ option_map (λ more. [] ++ more) found
nothing_before None = refl
nothing_before (Some xs) = refl

-- at the start
pub at_start : {A : Type 0} (all : List (Option A)) → SoFar all 0 []
at_start all = nothing_before (all_of all)

-- what is left from an index on
pub left_at : {A : Type 0} (all : List A) (i : ℕ) (x : A) → slice_get all i ≡ Some x → drop i all ≡ x ∷ drop (i + 1) all
left_at [] i x e = absurd (none-some x e)
left_at (y ∷ ys) zero x e = ap (λ z. z ∷ ys) (same_Some y x e)
left_at (y ∷ ys) (suc i) x e =
    let next : suc (i + 1) ≡ suc i + 1 = omega arith in
    left_at ys i x e ∙ ap (λ k. x ∷ drop k (y ∷ ys)) next

-- one more before the others
one_before :
    {A : Type 0} (x : A) (xs : List A) (others : Option (List A))
    → option_map (λ more. xs ++ more) (option_map (λ both. both.0 ∷ both.1) (and_others (Some x) others))
    ≡ option_map (λ more. (xs ++ x ∷ []) ++ more) others
one_before x xs None = refl
one_before x xs (Some more) = ap Some (sym (append_assoc xs (x ∷ []) more))

-- the next one is there
pub at_next :
    {A : Type 0} (all : List (Option A)) (i : ℕ) (x : A) (xs : List A)
    → slice_get all i ≡ Some (Some x) → SoFar all i xs → SoFar all (i + 1) (xs ++ x ∷ [])
at_next all i x xs e h =
    h ∙ ap (λ left. option_map (λ more. xs ++ more) (all_of left)) (left_at all i (Some x) e)
    ∙ one_before x xs (all_of (drop (i + 1) all))

-- the next one is missing
pub at_missing :
    {A : Type 0} (all : List (Option A)) (i : ℕ) (xs : List A)
    → slice_get all i ≡ Some None → SoFar all i xs → all_of all ≡ None
at_missing all i xs e h = h ∙ ap (λ left. option_map (λ more. xs ++ more) (all_of left)) (left_at all i None e)

-- at the end
pub at_end :
    {A : Type 0} (all : List (Option A)) (i : ℕ) (xs : List A)
    → length all ≤ i → SoFar all i xs → all_of all ≡ Some xs
at_end all i xs e h =
    h ∙ ap (λ left. option_map (λ more. xs ++ more) (all_of left)) (drop_all i all e) ∙ ap Some (append-nil xs)

-- the first and the others
abbrev both : {A : Type 0} → A → Option (List A) → Option (List A)
both x others = option_map (λ both. both.0 ∷ both.1) (and_others (Some x) others)

-- one more after the others
one_after :
    {A : Type 0} (y x : A) (xs : List A) (found after : Option (List A))
    → ((ys : List A) → found ≡ Some ys → after ≡ Some (ys ++ x ∷ []))
    → both y found ≡ Some xs → both y after ≡ Some (xs ++ x ∷ [])
one_after y x xs None after h e = absurd (none-some xs e)
one_after y x xs (Some ys) after h e =
    ap (both y) (h ys refl) ∙ ap (λ zs. Some (zs ++ x ∷ [])) (same_Some (y ∷ ys) xs e)

-- one more is there after those that are
pub with_next :
    {A : Type 0} (all : List (Option A)) (xs : List A) (x : A)
    → all_of all ≡ Some xs → all_of (all ++ Some x ∷ []) ≡ Some (xs ++ x ∷ [])
with_next [] xs x e = ap (λ ys. Some (ys ++ x ∷ [])) (same_Some [] xs e)
with_next (None ∷ all) xs x e = absurd (none-some xs e)
with_next (Some y ∷ all) xs x e =
    one_after y x xs (all_of all) (all_of (all ++ Some x ∷ [])) (λ ys h. with_next all ys x h) e
