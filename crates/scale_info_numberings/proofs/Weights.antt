-- What the nodes of a system weigh, and that distinct ones weigh no more than a list that has them.
use Rattle.std.proofs.Common.{◌≡◌, ℕ, zero, suc, ◌+◌, ◌≤◌, List, [], ◌∷◌, length, Option, Some}
use Rattle.std.proofs.Common.{None}
use Rattle.std.proofs.Common.{slice_get, sum_by, refl, ap, sym, ◌∙◌, arith, ◌⊎◌, inl, inr, Contains}
use Rattle.std.proofs.lemmas.List.Sums.{sum_by-cons}
use Rattle.std.proofs.lemmas.Option.{same_Some, none-some}
use Rattle.scale_info_numberings.specs.Systems.{Entry, System}
use Rattle.scale_info_numberings.specs.Numberings.{AreDistinct}
use Rattle.scale_info_numberings.proofs.Places.{place_of, contains_at, contains_head, contains_tail}

-- what a node weighs: its references and one, if it is in the system
abbrev pub weight_in : {Sh N : Type 0} → Option (Entry Sh N) → ℕ
weight_in None = 0
weight_in (Some d) = length d.refs + 1

-- what a node weighs in a system
abbrev pub weight : {Sh N : Type 0} → System Sh N → N → ℕ
weight S n = weight_in (S n)

-- the list without the element at a place
unfoldable pub without : {N : Type 0} → ℕ → List N → List N
without i [] = []
without zero (x ∷ xs) = xs
without (suc i) (x ∷ xs) = x ∷ without i xs

-- without the element at i, each element at another place is still in the list
pub kept_without :
    {N : Type 0} (i j : ℕ) (xs : List N) (n : N) → (i ≡ j → ⊥) → slice_get xs j ≡ Some n
    → (k : ℕ) × (slice_get (without i xs) k ≡ Some n)
unfolding without
kept_without i j [] n ne e = absurd (none-some n e)
kept_without zero zero (x ∷ xs) n ne e = absurd (ne refl)
kept_without zero (suc j) (x ∷ xs) n ne e = (j, e)
kept_without (suc i) zero (x ∷ xs) n ne e = (zero, e)
kept_without (suc i) (suc j) (x ∷ xs) n ne e =
    let r = kept_without i j xs n (λ q. ne (ap suc q)) e in (suc r.0, r.1)

sum-without :
    {N : Type 0} (w : N → ℕ) (xs : List N) (i : ℕ) (x : N) → slice_get xs i ≡ Some x
    → sum_by w (without i xs) + w x ≡ sum_by w xs
unfolding without
sum-without w [] i x e = absurd (none-some x e)
sum-without w (y ∷ xs) zero x e = let s : w y ≡ w x = ap w (same_Some y x e) in let c = sum_by-cons w y xs in omega arith
sum-without w (y ∷ xs) (suc i) x e = let r = sum-without w xs i x e in let c = sum_by-cons w y xs in let k = sum_by-cons w y (without i xs) in omega arith

-- distinct elements, of which those that weigh anything stand in K, weigh no more than K
pub distinct_sums :
    {N : Type 0} (w : N → ℕ) (L K : List N) → AreDistinct L → ((n : N) → Contains L n → (w n ≡ 0) ⊎ Contains K n)
    → sum_by w L ≤ sum_by w K
distinct_sums w [] K distinct f = omega arith
distinct_sums {N} w (x ∷ L) K distinct f =
    let rest_distinct : AreDistinct L = λ i j n e h. let q : suc i ≡ suc j = distinct (suc i) (suc j) n e h in omega arith in
    let c = sum_by-cons w x L in
    elim (f x (contains_head x L)) [
      | inl light ↦ let rest = distinct_sums w L K rest_distinct (λ n c. f n (contains_tail x L n c)) in omega arith
      | inr here ↦
          let p = place_of K x here in
          let less = sum-without w K p.0 x p.1 in
          let rest : sum_by w L ≤ sum_by w (without p.0 K) =
          distinct_sums w L (without p.0 K) rest_distinct
          (λ n c.
          elim (f n (contains_tail x L n c)) [
            | inl light ↦ inl light
            | inr there ↦
                let at = place_of L n c in
                let q = place_of K n there in
                let k =
                kept_without p.0 q.0 K n
                (λ e.
                let same : x ≡ n = same_Some x n (sym p.1 ∙ (ap (λ z. slice_get K z) e ∙ q.1)) in
                let z : zero ≡ suc at.0 = distinct zero (suc at.0) n (ap Some same) at.1 in
                omega arith)
                q.1 in
                inr (contains_at (without p.0 K) n k.0 k.1)
          ]) in
          omega arith
    ]
