-- The first name outside a system that is met from a list of roots.
use Rattle.std.proofs.Common.{◌≡◌, ℕ, zero, suc, ◌+◌, ◌≤◌, List, [], ◌∷◌, ◌++◌, length, Some, None}
use Rattle.std.proofs.Common.{subst, refl, sym, ◌∙◌, arith, append_assoc, inl, inr, Contains}
use Rattle.std.proofs.lemmas.List.{length_push}
use Rattle.std.proofs.lemmas.List.Elements.{Contains-append_left, Contains-append_cases}
use Rattle.std.proofs.lemmas.Option.{same_Some, none-some}
use Rattle.scale_info_numberings.proofs.Extensions.{one_extension}
use Rattle.scale_info_numberings.proofs.FirstReference.{extension_unfolds, extends_by_none}
use Rattle.scale_info_numberings.proofs.Places.{begins_at, begins_long, contains_head}
use Rattle.scale_info_numberings.proofs.Places.{contains_tail}
use Rattle.scale_info_numberings.specs.Extensions.{IsExtension}
use Rattle.scale_info_numberings.specs.Systems.{Entry, System, IsReachedPast, root, next}
use Rattle.scale_info_numberings.specs.Systems.{IsFirstOutside, here, after_known, after_node}

module _ {Sh N : Type 0} (S : System Sh N) where
  -- it lies outside
  pub lies_outside : (known roots : List N) (n : N) → IsFirstOutside S known roots n → S n ≡ None
  lies_outside known roots n (here k rs m fresh none) = none
  lies_outside known roots n (after_known k rs m o c x) = lies_outside k rs o x
  lies_outside known roots n (after_node k rs m o d fresh s x) =
      lies_outside (k ++ m ∷ []) (d.refs ++ rs) o x

  -- what is reached from some roots is reached from one more
  reached_from_more :
      (known roots : List N) (m n : N) → IsReachedPast S known roots n
      → IsReachedPast S known (m ∷ roots) n
  reached_from_more known roots m n (root o c u) = root o (contains_tail m roots o c) u
  reached_from_more known roots m n (next p o d x s c u) =
      next p o d (reached_from_more known roots m p x) s c u

  -- what is reached past a node, from its references and other roots, is reached from it and these
  reached_from_node :
      (known roots : List N) (m : N) (d : Entry Sh N) → ¬ (Contains known m) → S m ≡ Some d
      → (n : N) → IsReachedPast S (known ++ m ∷ []) (d.refs ++ roots) n
      → IsReachedPast S known (m ∷ roots) n
  reached_from_node known roots m d fresh s n (root o c u) =
      elim (Contains-append_cases d.refs roots o c) [
        | inl k ↦
            next m o d (root m (contains_head m roots) fresh) s k
            (λ z. u (Contains-append_left known (m ∷ []) o z))
        | inr k ↦
            root o (contains_tail m roots o k) (λ z. u (Contains-append_left known (m ∷ []) o z))
      ]
  reached_from_node known roots m d fresh s n (next p o e x t c u) =
      next p o e (reached_from_node known roots m d fresh s p x) t c
      (λ z. u (Contains-append_left known (m ∷ []) o z))

  -- it is reached
  pub outside_reached :
      (known roots : List N) (n : N) → IsFirstOutside S known roots n
      → IsReachedPast S known roots n
  outside_reached known roots n (here k rs m fresh none) = root m (contains_head m rs) fresh
  outside_reached known roots n (after_known k rs m o c x) =
      reached_from_more k rs m o (outside_reached k rs o x)
  outside_reached known roots n (after_node k rs m o d fresh s x) =
      reached_from_node k rs m d fresh s o (outside_reached (k ++ m ∷ []) (d.refs ++ rs) o x)

  -- the first from some roots is the first from these and more
  pub first_of_more :
      (known roots more : List N) (n : N) → IsFirstOutside S known roots n
      → IsFirstOutside S known (roots ++ more) n
  first_of_more known roots more n (here k rs m fresh none) = here k (rs ++ more) m fresh none
  first_of_more known roots more n (after_known k rs m o c x) =
      after_known k (rs ++ more) m o c (first_of_more k rs more o x)
  first_of_more known roots more n (after_node k rs m o d fresh s x) =
      after_node k (rs ++ more) m o d fresh s
      (subst (λ qs. IsFirstOutside S (k ++ m ∷ []) qs o) (append_assoc d.refs rs more)
      (first_of_more (k ++ m ∷ []) (d.refs ++ rs) more o x))

  -- the first after an extension is the first from its roots and then the others: by how many nodes
  -- the extension may still add
  first_after_so_many :
      (room : ℕ) (known roots all more : List N) (n : N) → length all ≤ length known + room
      → IsExtension S known roots all → IsFirstOutside S all more n
      → IsFirstOutside S known (roots ++ more) n
  first_after_so_many room known [] all more n few x f =
      subst (λ ks. IsFirstOutside S ks more n)
      (one_extension S known [] all known x
      (extends_by_none S known
      (λ i j m p q.
      x.1.distinct i j m (begins_at known all x.1.begins i m p) (begins_at known all x.1.begins j m q))))
      f
  first_after_so_many zero known (m ∷ roots) all more n few x f =
      elim ((extension_unfolds S known m roots all).0 x) [
        | inl y ↦
            after_known known (roots ++ more) m n y.0
            (first_after_so_many zero known roots all more n few y.1 f)
        | inr y ↦
            absurd (let long = begins_long (known ++ m ∷ []) all y.3.1.begins in
            let push = length_push known m in
            omega arith)
      ]
  first_after_so_many (suc room) known (m ∷ roots) all more n few x f =
      elim ((extension_unfolds S known m roots all).0 x) [
        | inl y ↦
            after_known known (roots ++ more) m n y.0
            (first_after_so_many (suc room) known roots all more n few y.1 f)
        | inr y ↦
            after_node known (roots ++ more) m n y.0 y.2 y.1
            (subst (λ rs. IsFirstOutside S (known ++ m ∷ []) rs n) (append_assoc y.0.refs roots more)
            (first_after_so_many room (known ++ m ∷ []) (y.0.refs ++ roots) all more n
            (let push = length_push known m in omega arith) y.3 f))
      ]

  -- the first after an extension is the first from its roots and then the others
  pub first_after :
      (known roots all more : List N) (n : N) → IsExtension S known roots all
      → IsFirstOutside S all more n → IsFirstOutside S known (roots ++ more) n
  first_after known roots all more n x f =
      first_after_so_many (length all) known roots all more n (omega arith) x f

  -- there is one
  pub one_first_outside :
      (known roots : List N) (n m : N) → IsFirstOutside S known roots n
      → IsFirstOutside S known roots m → n ≡ m
  one_first_outside known roots n m (here k rs o fresh none) (here l qs p new other) = refl
  one_first_outside known roots n m (here k rs o fresh none) (after_known l qs p q c y) =
      absurd (fresh c)
  one_first_outside known roots n m (here k rs o fresh none) (after_node l qs p q d new s y) =
      absurd (none-some d (sym none ∙ s))
  one_first_outside known roots n m (after_known k rs o p c x) (here l qs q new other) =
      absurd (new c)
  one_first_outside known roots n m (after_known k rs o p c x) (after_known l qs q r e y) =
      one_first_outside k rs p r x y
  one_first_outside known roots n m (after_known k rs o p c x) (after_node l qs q r d new s y) =
      absurd (new c)
  one_first_outside known roots n m (after_node k rs o p d fresh s x) (here l qs q new other) =
      absurd (none-some d (sym other ∙ s))
  one_first_outside known roots n m (after_node k rs o p d fresh s x) (after_known l qs q r c y) =
      absurd (fresh c)
  one_first_outside known roots n m (after_node k rs o p d fresh s x) (after_node l qs q r e new t y) =
      let same : e ≡ d = same_Some e d (sym t ∙ s) in
      one_first_outside (k ++ o ∷ []) (d.refs ++ rs) p r x
      (subst (λ z. IsFirstOutside S (k ++ o ∷ []) (z.refs ++ rs) r) same y)
