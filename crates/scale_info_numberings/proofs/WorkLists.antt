-- What a walk by a list of work keeps.
use Rattle.std.proofs.Common.{◌≡◌, ℕ, zero, suc, ◌+◌, ◌<◌, ◌≤◌, List, [], ◌∷◌, ◌++◌, length, Some}
use Rattle.std.proofs.Common.{slice_get}
use Rattle.std.proofs.Common.{ap, sym, ◌∙◌, subst, arith, ◌⊎◌, inl, inr, Contains}
use Rattle.std.proofs.lemmas.Bool.{cases_lt}
use Rattle.std.proofs.lemmas.List.{length_push}
use Rattle.std.proofs.lemmas.List.Elements.{Contains-append_left, Contains-append_cases}
use Rattle.std.proofs.lemmas.Option.{slice_get_within, same_Some, none-some}
use Rattle.scale_info_numberings.specs.Systems.{Entry, System, IsReachedPast, root, next}
use Rattle.scale_info_numberings.specs.Systems.{IsFirstOutside, after_known, after_node}
use Rattle.scale_info_numberings.specs.Numberings.{AreDistinct}
use Rattle.scale_info_numberings.specs.Extensions.{IsExtension}
use Rattle.scale_info_numberings.proofs.Places.{place_of, contains_at, contains_head, contains_tail}
use Rattle.scale_info_numberings.proofs.Places.{from_left, at_seam}
use Rattle.scale_info_numberings.proofs.FirstReference.{extension_unfolds, extends_by_none}

-- distinct elements, and one more that is none of them, are distinct
pub distinct_push : {N : Type 0} (L : List N) (n : N) → AreDistinct L → ¬ (Contains L n) → AreDistinct (L ++ n ∷ [])
distinct_push {N} L n distinct new i j m e h =
    let push : length (L ++ n ∷ []) ≡ length L + 1 = length_push L n in
    let a : i < length (L ++ n ∷ []) = slice_get_within (L ++ n ∷ []) i m e in
    let b : j < length (L ++ n ∷ []) = slice_get_within (L ++ n ∷ []) j m h in
    let last : (k : ℕ) → length L ≤ k → slice_get (L ++ n ∷ []) k ≡ Some m → k < length (L ++ n ∷ []) → n ≡ m =
    λ k low s up.
    let q : length L ≡ k = omega arith in
    same_Some n m (sym (at_seam L [] n) ∙ (ap (λ z. slice_get (L ++ n ∷ []) z) q ∙ s)) in
    elim (cases_lt i (length L)) [
      | inl x ↦
          elim (cases_lt j (length L)) [
            | inl y ↦ distinct i j m (from_left L (n ∷ []) i m x e) (from_left L (n ∷ []) j m y h)
            | inr y ↦ absurd (new (contains_at L n i (from_left L (n ∷ []) i m x e ∙ ap Some (sym (last j y h b)))))
          ]
      | inr x ↦
          elim (cases_lt j (length L)) [
            | inl y ↦ absurd (new (contains_at L n j (from_left L (n ∷ []) j m y h ∙ ap Some (sym (last i x e a)))))
            | inr y ↦ omega arith
          ]
    ]

-- whatever extends the order by what is pending extends the order at the start by the roots
pub record IsWalking {Sh N : Type 0} (S : System Sh N) (old roots order pending : List N) : Type 0 where
  pub distinct : AreDistinct order
  pub then : (M : List N) → IsExtension S order pending M → IsExtension S old roots M
  pub grown : (n : N) → Contains old n → Contains order n
  pub held : (n : N) → Contains order n → Contains old n ⊎ IsReachedPast S old roots n
  pub reached : (n : N) → Contains pending n → ¬ (Contains old n) → IsReachedPast S old roots n
  pub first : (n : N) → IsFirstOutside S order pending n → IsFirstOutside S old roots n

module _ {Sh N : Type 0} (S : System Sh N) (old roots : List N) where
  -- a walk starts with what is known, and the roots pending
  pub walk_starts : AreDistinct old → IsWalking S old roots old roots
  walk_starts distinct =
      record {
        distinct = distinct;
        then = λ M x. x;
        grown = λ n c. c;
        held = λ n c. inl c;
        reached = λ n c u. root n c u;
        first = λ n f. f;
      }

  -- a pending node that is in the order is passed over
  pub walk_passes :
      (order rest : List N) (n : N) → Contains order n → IsWalking S old roots order (n ∷ rest)
      → IsWalking S old roots order rest
  walk_passes order rest n c x =
      record {
        distinct = x.distinct;
        then = λ M y. x.then M ((extension_unfolds S order n rest M).1 (inl (c, y)));
        grown = x.grown;
        held = x.held;
        reached = λ m k u. x.reached m (contains_tail n rest m k) u;
        first = λ m f. x.first m (after_known order rest n m c f);
      }

  -- what is met and not yet numbered is reached
  pub walk_meets :
      (order rest : List N) (n : N) → ¬ (Contains order n) → IsWalking S old roots order (n ∷ rest)
      → IsReachedPast S old roots n
  walk_meets order rest n fresh x = x.reached n (contains_head n rest) (λ g. fresh (x.grown n g))

  -- with the node that is met added, each node in the order was known or is reached
  pub kept_below :
      (order rest : List N) (n : N) → ¬ (Contains order n) → IsWalking S old roots order (n ∷ rest)
      → (m : N) → Contains (order ++ n ∷ []) m → Contains old m ⊎ IsReachedPast S old roots m
  kept_below order rest n fresh x m c =
      elim (Contains-append_cases order (n ∷ []) m c) [
        | inl k ↦ x.held m k
        | inr k ↦
            let p = place_of (n ∷ []) m k in
            let e : n ≡ m = only n m p.0 p.1 in
            inr (subst (λ z. IsReachedPast S old roots z) e (walk_meets order rest n fresh x))
      ]
    where
      only : (n m : N) (i : ℕ) → slice_get (n ∷ []) i ≡ Some m → n ≡ m
      only n m zero e = same_Some n m e
      only n m (suc i) e = absurd (none-some m e)

  -- a pending node of the system that is not in the order is added, and its references come first
  pub walk_adds :
      (order rest : List N) (n : N) (d : Entry Sh N) → ¬ (Contains order n) → S n ≡ Some d → IsWalking S old roots order (n ∷ rest)
      → IsWalking S old roots (order ++ n ∷ []) (d.refs ++ rest)
  walk_adds order rest n d fresh s x =
      record {
        distinct = distinct_push order n x.distinct fresh;
        then = λ M y. x.then M ((extension_unfolds S order n rest M).1 (inr (d, s, fresh, y)));
        grown = λ m c. Contains-append_left order (n ∷ []) m (x.grown m c);
        held = kept_below order rest n fresh x;
        reached = λ m c u.
            elim (Contains-append_cases d.refs rest m c) [
              | inl k ↦ next n m d (walk_meets order rest n fresh x) s k u
              | inr k ↦ x.reached m (contains_tail n rest m k) u
            ];
        first = λ m f. x.first m (after_node order rest n m d fresh s f);
      }

  -- with nothing pending, the order extends what is known by the roots
  pub walk_ends : (order : List N) → IsWalking S old roots order [] → IsExtension S old roots order
  walk_ends order x = x.then order (extends_by_none S order x.distinct)
