-- Two lists side by side: facts on their elements at equal places.
use Rattle.std.proofs.Common.{Contains, List, Some, [], slice_get, subst, suc, sym, zero, ℕ, ◌<◌}
use Rattle.std.proofs.Common.{◌∷◌, ◌≡◌}
use Rattle.std.proofs.lemmas.Option.{none-some, same_Some, slice_get_within}
use Rattle.std.proofs.lemmas.Slice.Zip.{AllZip-long}
use Rattle.std.specs.List.{AllZip}
use Rattle.scale_info_numberings.proofs.Places.{contains_head, contains_tail, element_at}

-- a weaker relation holds of the elements side by side
pub zip_weaker :
    {A B : Type 0} (P Q : A → B → Type 0) (xs : List A) (ys : List B)
    → ((x : A) (y : B) → Contains xs x → Contains ys y → P x y → Q x y)
    → AllZip P xs ys
    → AllZip Q xs ys
zip_weaker P Q [] [] f z = tt
zip_weaker P Q [] (y ∷ ys) f z = absurd z
zip_weaker P Q (x ∷ xs) [] f z = absurd z
zip_weaker P Q (x ∷ xs) (y ∷ ys) f z = (
  f x y (contains_head x xs) (contains_head y ys) z.0,
  zip_weaker P Q xs ys (λ a b h k p. f a b (contains_tail x xs a h) (contains_tail y ys b k) p) z.1,
)

-- two relations with one list give one between the other two lists
pub zip_joined :
    {A B C : Type 0} (P : A → B → Type 0) (Q : A → C → Type 0) (R : B → C → Type 0)
    → ((x : A) (y : B) (z : C) → P x y → Q x z → R y z)
    → (xs : List A) (ys : List B) (zs : List C) → AllZip P xs ys → AllZip Q xs zs → AllZip R ys zs
zip_joined P Q R f [] [] [] p q = tt
zip_joined P Q R f [] [] (z ∷ zs) p q = absurd q
zip_joined P Q R f [] (y ∷ ys) zs p q = absurd p
zip_joined P Q R f (x ∷ xs) [] zs p q = absurd p
zip_joined P Q R f (x ∷ xs) (y ∷ ys) [] p q = absurd q
zip_joined P Q R f (x ∷ xs) (y ∷ ys) (z ∷ zs) p q =
    (f x y z p.0 q.0, zip_joined P Q R f xs ys zs p.1 q.1)

-- the same with the lists exchanged
pub zip_turned :
    {A B : Type 0} (P : A → B → Type 0) (xs : List A) (ys : List B)
    → AllZip P xs ys → AllZip (λ y x. P x y) ys xs
zip_turned P [] [] z = tt
zip_turned P [] (y ∷ ys) z = absurd z
zip_turned P (x ∷ xs) [] z = absurd z
zip_turned P (x ∷ xs) (y ∷ ys) z = (z.0, zip_turned P xs ys z.1)

-- the relation holds at each place
pub zip_at :
    {A B : Type 0} (P : A → B → Type 0) (xs : List A) (ys : List B)
    → AllZip P xs ys
    → (i : ℕ) (x : A) (y : B)
    → slice_get xs i ≡ Some x
    → slice_get ys i ≡ Some y → P x y
zip_at P [] ys z i x y e h = absurd (none-some x e)
zip_at P (a ∷ xs) [] z i x y e h = absurd z
zip_at P (a ∷ xs) (b ∷ ys) z zero x y e h =
    subst (λ c. P c y) (same_Some a x e) (subst (λ c. P a c) (same_Some b y h) z.0)
zip_at P (a ∷ xs) (b ∷ ys) z (suc i) x y e h = zip_at P xs ys z.1 i x y e h

-- the place of x in xs has a y in ys
pub zip_right :
    {A B : Type 0} (P : A → B → Type 0) (xs : List A) (ys : List B)
    → AllZip P xs ys → (i : ℕ) (x : A) → slice_get xs i ≡ Some x
    → (y : B) × (slice_get ys i ≡ Some y) × P x y
zip_right P xs ys z i x e =
    let y =
    element_at ys i
    (subst (λ n. i < n) (sym (AllZip-long P xs ys z)) (slice_get_within xs i x e)) in
    (y.0, y.1, zip_at P xs ys z i x y.0 e y.1)
