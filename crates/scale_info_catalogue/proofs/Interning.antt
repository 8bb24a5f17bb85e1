-- Whether an identity has a number, by what comes of interning it.
use Rattle.std.proofs.Common.{◌≡◌, ◌⊎◌, ◌∙◌, ℕ, suc, List, [], ◌∷◌, Bool, true, false, inl, inr, refl}
use Rattle.std.proofs.Common.{ap, sym, zero}
use Rattle.std.proofs.lemmas.Bool.{false≢true}
use Rattle.std.proofs.lemmas.Option.{none-some, same_Some}
use Rattle.scale_info_interner.specs.Interned.{IsIndexOf, IsKnown, IsNew}

-- a value is not the first of a list, and is known or new in the others
after_first :
    {T : Type 0} (eq : T → T → Bool) (y : T) (ys : List T) (x : T) → eq x y ≡ false
    → IsKnown eq ys x ⊎ IsNew eq ys x → IsKnown eq (y ∷ ys) x ⊎ IsNew eq (y ∷ ys) x
after_first eq y ys x other (inl known) = inl (suc known.0, known.1)
after_first eq y ys x other (inr new) = inr (λ known. in_neither known.0 known.1)
  where
    in_neither : (i : ℕ) → IsIndexOf eq (y ∷ ys) x i → ⊥
    in_neither zero at =
        false≢true (sym other ∙ (ap (eq x) (same_Some _ _ at.1) ∙ at.2))
    in_neither (suc i) at = new (i, at)

by_first :
    {T : Type 0} (eq : T → T → Bool) (y : T) (ys : List T) (x : T) (first : Bool)
    → eq x y ≡ first → IsKnown eq ys x ⊎ IsNew eq ys x
    → IsKnown eq (y ∷ ys) x ⊎ IsNew eq (y ∷ ys) x
by_first eq y ys x true same others = inl (0, (y, refl, same))
by_first eq y ys x false other others = after_first eq y ys x other others

-- a value is known in a list or new in it
pub known_or_new :
    {T : Type 0} (eq : T → T → Bool) (xs : List T) (x : T) → IsKnown eq xs x ⊎ IsNew eq xs x
known_or_new eq [] x = inr (λ known. none-some known.1.0 known.1.1)
known_or_new eq (y ∷ ys) x = by_first eq y ys x (eq x y) refl (known_or_new eq ys x)

-- what was found to be new is new, if a known one is not found so
pub new_by :
    {T : Type 0} (eq : T → T → Bool) (xs : List T) (x : T) (is_new : Bool)
    → (IsKnown eq xs x → is_new ≡ false) → is_new ≡ true → IsNew eq xs x
new_by eq xs x is_new known so is = false≢true (sym (known is) ∙ so)

-- what was not found to be new is known, if a new one is found so
pub known_by :
    {T : Type 0} (eq : T → T → Bool) (xs : List T) (x : T) (is_new : Bool)
    → (IsNew eq xs x → is_new ≡ true) → is_new ≡ false → IsKnown eq xs x
known_by eq xs x is_new new so = decided (known_or_new eq xs x)
  where
    decided : IsKnown eq xs x ⊎ IsNew eq xs x → IsKnown eq xs x
    decided (inl known) = known
    decided (inr is) = absurd (false≢true (sym so ∙ new is))
