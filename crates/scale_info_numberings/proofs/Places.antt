-- Elements of a list by their places.
use Rattle.std.proofs.Common.{Contains, List, Some, [], ap, arith, inl, inr, length, length-append}
use Rattle.std.proofs.Common.{refl, slice_get, subst, suc, sym, zero, zero-add, ℕ, ◌++◌, ◌+◌, ◌<◌}
use Rattle.std.proofs.Common.{◌∙◌, ◌∷◌, ◌≡◌, ◌≤◌, ◌⊎◌}
use Rattle.std.proofs.lemmas.List.FromFn.{get_or-range_with_len, length-range_with_len}
use Rattle.std.proofs.lemmas.Option.{get_or_from_slice_get, none-some, same_Some, slice_get-get_or}
use Rattle.std.proofs.lemmas.Option.{slice_get_within}
use Rattle.std.specs.List.{range_with_len}

-- an element has a place
pub place_of :
    {A : Type 0} (xs : List A) (x : A)
    → Contains xs x → (i : ℕ) × (slice_get xs i ≡ Some x)
place_of xs x h = (h.0, slice_get-get_or xs h.0 x h.1 ∙ ap Some h.2)

-- what has a place is an element
pub contains_at :
    {A : Type 0} (xs : List A) (x : A) (i : ℕ)
    → slice_get xs i ≡ Some x → Contains xs x
contains_at xs x i e = (i, slice_get_within xs i x e, get_or_from_slice_get xs i x x e)

-- a place below the length has an element
pub element_at :
    {A : Type 0} (xs : List A) (i : ℕ)
    → i < length xs → (x : A) × (slice_get xs i ≡ Some x)
element_at [] i h = absurd (omega arith)
element_at (x ∷ xs) zero h = (x, refl)
element_at (x ∷ xs) (suc i) h = element_at xs i (omega arith)

-- an element of the prefix stands at its place in the whole
pub at_left :
    {A : Type 0} (xs ys : List A) (i : ℕ) (x : A)
    → slice_get xs i ≡ Some x → slice_get (xs ++ ys) i ≡ Some x
at_left [] ys i x e = absurd (none-some x e)
at_left (y ∷ xs) ys zero x e = e
at_left (y ∷ xs) ys (suc i) x e = at_left xs ys i x e

-- a place of the prefix has the same element in the whole
pub from_left :
    {A : Type 0} (xs ys : List A) (i : ℕ) (x : A)
    → i < length xs → slice_get (xs ++ ys) i ≡ Some x → slice_get xs i ≡ Some x
from_left [] ys i x h e = absurd (omega arith)
from_left (y ∷ xs) ys zero x h e = e
from_left (y ∷ xs) ys (suc i) x h e = from_left xs ys i x (omega arith) e

-- where the prefix ends the next element stands
pub at_seam : {A : Type 0} (xs ys : List A) (x : A) → slice_get (xs ++ x ∷ ys) (length xs) ≡ Some x
at_seam [] ys x = refl
at_seam (y ∷ xs) ys x = at_seam xs ys x

-- lists of one length with the same elements at each place are equal
pub same_places :
    {A : Type 0} (xs ys : List A)
    → length xs ≡ length ys → ((i : ℕ) (x : A) → slice_get xs i ≡ Some x → slice_get ys i ≡ Some x)
    → xs ≡ ys
same_places [] [] l f = refl
same_places [] (y ∷ ys) l f = absurd (omega arith)
same_places (x ∷ xs) [] l f = absurd (omega arith)
same_places (x ∷ xs) (y ∷ ys) l f =
    let e : x ≡ y = sym (same_Some y x (f zero x refl)) in
    let r : xs ≡ ys = same_places xs ys (omega arith) (λ i z h. f (suc i) z h) in cc

-- a list that begins with xs and x
pub begins_more :
    {A : Type 0} (xs new : List A) (x : A)
    → slice_get (xs ++ new) (length xs) ≡ Some x
    → (rest : List A) × ((xs ++ x ∷ []) ++ rest ≡ xs ++ new)
begins_more [] [] x e = absurd (none-some x e)
begins_more [] (y ∷ new) x e = (new, ap (λ z. z ∷ new) (sym (same_Some y x e)))
begins_more (y ∷ xs) new x e = let r = begins_more xs new x e in (r.0, ap (λ zs. y ∷ zs) r.1)

-- the first element is an element
pub contains_head : {A : Type 0} (x : A) (xs : List A) → Contains (x ∷ xs) x
contains_head x xs = contains_at (x ∷ xs) x zero refl

-- an element of the rest is an element
pub contains_tail : {A : Type 0} (y : A) (xs : List A) (x : A) → Contains xs x → Contains (y ∷ xs) x
contains_tail y xs x c = let p = place_of xs x c in contains_at (y ∷ xs) x (suc p.0) p.1

cases_at :
    {A : Type 0} (y : A) (xs : List A) (x : A) (i : ℕ)
    → slice_get (y ∷ xs) i ≡ Some x → (y ≡ x) ⊎ Contains xs x
cases_at y xs x zero e = inl (same_Some y x e)
cases_at y xs x (suc i) e = inr (contains_at xs x i e)

-- an element is the first or one of the rest
pub contains_cases :
    {A : Type 0} (y : A) (xs : List A) (x : A)
    → Contains (y ∷ xs) x → (y ≡ x) ⊎ Contains xs x
contains_cases y xs x c = let p = place_of (y ∷ xs) x c in cases_at y xs x p.0 p.1

-- a list by what is at each place
pub list_from :
    {A : Type 0} (n : ℕ) (P : ℕ → A → Type 0)
    → ((i : ℕ) → i < n → (x : A) × P i x)
    → (xs : List A) × (length xs ≡ n) × ((i : ℕ) (x : A) → slice_get xs i ≡ Some x → P i x)
list_from zero P f = ([], refl, λ i x e. absurd (none-some x e))
list_from (suc n) P f =
    let x = f zero (omega arith) in
    let r = list_from n (λ i y. P (suc i) y) (λ i h. f (suc i) (omega arith)) in
    (x.0 ∷ r.0, ap suc r.1, listed P x.0 r.0 x.1 r.2)
  where
    listed :
        {A : Type 0} (P : ℕ → A → Type 0) (x : A) (xs : List A)
        → P zero x → ((i : ℕ) (y : A) → slice_get xs i ≡ Some y → P (suc i) y) → (i : ℕ) (y : A)
        → slice_get (x ∷ xs) i ≡ Some y → P i y
    listed P x xs p f zero y e = subst (λ z. P zero z) (same_Some x y e) p
    listed P x xs p f (suc i) y e = f i y e

-- a list that begins with another
pub begins_long :
    {N : Type 0} (K L : List N)
    → (new : List N) × (K ++ new ≡ L) → length K ≤ length L
begins_long K L b =
    let e : length K + length b.0 ≡ length L = sym (length-append K b.0) ∙ ap length b.1 in
    omega arith

-- its elements stand at their places in the longer list
pub begins_at :
    {N : Type 0} (K L : List N)
    → (new : List N) × (K ++ new ≡ L) → (i : ℕ) (n : N) → slice_get K i ≡ Some n
    → slice_get L i ≡ Some n
begins_at K L b i n e = subst (λ zs. slice_get zs i ≡ Some n) b.1 (at_left K b.0 i n e)

-- the longer list has no other elements at these places
pub begins_from :
    {N : Type 0} (K L : List N)
    → (new : List N) × (K ++ new ≡ L) → (i : ℕ) (n : N) → i < length K → slice_get L i ≡ Some n
    → slice_get K i ≡ Some n
begins_from K L b i n h e =
    from_left K b.0 i n h (subst (λ zs. slice_get zs i ≡ Some n) (sym b.1) e)

-- the numbers below n, in order
pub at_range : (n i : ℕ) → i < n → slice_get (range_with_len 0 n) i ≡ Some i
at_range n i h =
    slice_get-get_or (range_with_len 0 n) i 0
    (subst (λ z. i < z) (sym (length-range_with_len 0 n)) h)
    ∙ ap Some (get_or-range_with_len 0 n i 0 h ∙ zero-add i)

-- at the place i of the numbers below n stands i
pub in_range : (n i p : ℕ) → slice_get (range_with_len 0 n) i ≡ Some p → (i < n) × (p ≡ i)
in_range n i p e =
    let h : i < n =
    subst (λ z. i < z) (length-range_with_len 0 n) (slice_get_within (range_with_len 0 n) i p e) in
    (h, same_Some p i (sym e ∙ at_range n i h))
