-- Elements of a list with one more at its end.
use Rattle.std.proofs.Common.{◌≡◌, ℕ, zero, suc, List, [], ◌∷◌, ◌++◌, length, Some, slice_get, ◌⊎◌}
use Rattle.std.proofs.Common.{inl, inr, refl, rules, arith, ◌+◌, ◌-◌, ◌<◌, Option, None, IsSome}
use Rattle.std.proofs.Common.{sym}
use Rattle.std.proofs.Common.{subst, ap, ◌∙◌}
use Rattle.std.specs.Option.{option_to_list}
use Rattle.std.proofs.lemmas.Bool.{true≢false}
use Rattle.std.proofs.lemmas.List.{length-append}
use Rattle.std.proofs.lemmas.Option.{slice_get_within, same_Some}
use Rattle.std.proofs.lemmas.Grind.{common_steps}

-- an element of a list with one more at the end is an earlier one or the last
pub at_end :
    {T : Type 0} (xs : List T) (x : T) (i : ℕ) (y : T) → slice_get (xs ++ x ∷ []) i ≡ Some y
    → (slice_get xs i ≡ Some y) ⊎ ((i ≡ length xs) × (x ≡ y))
at_end [] x zero y h = inr (refl, grind (common_steps, rules))
at_end [] x (suc i) y h = cc
at_end (z ∷ zs) x zero y h = inl h
at_end (z ∷ zs) x (suc i) y h =
    elim (at_end zs x i y h)
    [ inl p ↦ inl p | inr q ↦ inr (grind (arith, common_steps, rules, q), q.1) ]

-- each element keeps its index where one more is put at the end
pub kept_at :
    {T : Type 0} (xs : List T) (x : T) (i : ℕ) (y : T) → slice_get xs i ≡ Some y
    → slice_get (xs ++ x ∷ []) i ≡ Some y
kept_at [] x i y h = cc
kept_at (z ∷ zs) x zero y h = h
kept_at (z ∷ zs) x (suc i) y h = kept_at zs x i y h

-- the index of the last element is the length of the list before it
pub last_at : {T : Type 0} (xs : List T) (x : T) → slice_get (xs ++ x ∷ []) (length xs) ≡ Some x
last_at [] x = refl
last_at (z ∷ zs) x = last_at zs x

-- a list from which its last element was taken
pub last_taken :
    {T : Type 0} (xs ys : List T) (r : Option T) (x : T) → xs ≡ ys ++ option_to_list r
    → (0 < length xs → IsSome r)
    → slice_get xs (length xs - 1) ≡ Some x
    → xs ≡ ys ++ x ∷ []
last_taken xs ys None x e some h =
    let within = slice_get_within xs (length xs - 1) x h in absurd (true≢false (sym (some (omega (arith, within)))))
last_taken xs ys (Some z) x e some h =
    let whole : xs ≡ ys ++ z ∷ [] = e in
    let long : length xs ≡ length ys + 1 = ap length whole ∙ length-append ys (z ∷ []) in
    let at : length xs - 1 ≡ length ys = omega (arith, long) in
    let same : z ≡ x =
    same_Some z x
    (sym (last_at ys z) ∙ subst (λ v. slice_get v (length ys) ≡ Some x) whole
    (subst (λ n. slice_get xs n ≡ Some x) at h)) in
    subst (λ v. xs ≡ ys ++ v ∷ []) same whole
