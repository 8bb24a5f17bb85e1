-- Lists with one element added at the end.
use Rattle.std.proofs.Common.{◌≡◌, ◌++◌, ◌∷◌, ◌⊎◌, inl, inr, ℕ, zero, suc, List, [], Some, length, slice_get}
use Rattle.std.proofs.Common.{ap, arith, sym, refl}
use Rattle.std.proofs.lemmas.Option.{none-some, same_Some, slice_get_within}

-- an element of it is one of the others, or that at the end
pub pushed_at :
    {A : Type 0} (xs : List A) (y : A) (k : ℕ) (x : A)
    → slice_get (xs ++ y ∷ []) k ≡ Some x
    → (slice_get xs k ≡ Some x) ⊎ ((k ≡ length xs) × (x ≡ y))
pushed_at [] y zero x e = inr (refl, sym (same_Some y x e))
pushed_at [] y (suc k) x e = absurd (none-some x e)
pushed_at (z ∷ xs) y zero x e = inl e
pushed_at (z ∷ xs) y (suc k) x e =
    elim (pushed_at xs y k x e) [
      | inl a ↦ inl a
      | inr a ↦ inr (ap suc a.0, a.1)
    ]

-- the same of elements at one place of two lists that are as long
pub both_pushed_at :
    {A B : Type 0} (xs : List A) (ys : List B) (y : A) (w : B) (k : ℕ) (x : A) (v : B)
    → length xs ≡ length ys → slice_get (xs ++ y ∷ []) k ≡ Some x
    → slice_get (ys ++ w ∷ []) k ≡ Some v
    → ((slice_get xs k ≡ Some x) × (slice_get ys k ≡ Some v))
    ⊎ ((k ≡ length xs) × (x ≡ y) × (v ≡ w))
both_pushed_at xs ys y w k x v long e f =
    elim (pushed_at xs y k x e) [
      | inl a ↦
          elim (pushed_at ys w k v f) [
            | inl b ↦ inl (a, b)
            | inr b ↦ absurd (omega (arith, slice_get_within xs k x a, b.0))
          ]
      | inr a ↦
          elim (pushed_at ys w k v f) [
            | inl b ↦ absurd (omega (arith, slice_get_within ys k v b, a.0))
            | inr b ↦ inr (a.0, a.1, b.1)
          ]
    ]
