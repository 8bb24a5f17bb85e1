-- An extension by a list of references, taken apart at the first of them and put together again.
use Rattle.std.proofs.Common.{Contains, List, Some, [], ap, append-nil, append_assoc, arith, cond}
use Rattle.std.proofs.Common.{eqb, inl, inr, le_refl, length, refl, slice_get, subst, sym, ℕ, ◌++◌}
use Rattle.std.proofs.Common.{◌+◌, ◌<◌, ◌↔◌, ◌∙◌, ◌∷◌, ◌≡◌, ◌≤◌}
use Rattle.std.proofs.lemmas.Bool.{cases_eq, eq-eqb, ne_eqb}
use Rattle.std.proofs.lemmas.List.{length_push}
use Rattle.std.proofs.lemmas.Option.{same_Some, slice_get_within}
use Rattle.scale_info_numberings.proofs.Extensions.{extension_as}
use Rattle.scale_info_numberings.proofs.Places.{at_seam, begins_at, begins_from, begins_more}
use Rattle.scale_info_numberings.proofs.Places.{contains_at, place_of}
use Rattle.scale_info_numberings.proofs.Walking.{EndsFrom, join_walks, move_walk, split_walk, walk_rises}
use Rattle.scale_info_numberings.specs.Extensions.{IsExtension, IsExtensionByOne, IsExtensionWith}
use Rattle.scale_info_numberings.specs.Numberings.{AreDistinct, Walks}
use Rattle.scale_info_numberings.specs.Systems.{Entry, System}

module _ {Sh N : Type 0} (S : System Sh N) (L : List N) (n : N) (Q M : List N) where
  unfold_extension :
      (ends : ℕ → ℕ)
      → IsExtensionWith S L (n ∷ Q) M ends → IsExtensionByOne S L n Q M
  unfold_extension ends x =
      let w = x.from_roots in
      elim w.1 [
        | inl s ↦
            inl (
              contains_at L n s.0 (begins_from L M x.begins s.0 n s.1 s.2),
              (
                ends,
                extension_as x (subst (λ z. Walks M ends Q z (length M)) s.3 w.2) x.nodes,
              ),
            )
        | inr s ↦
            let node = x.nodes (length L) n (le_refl (length L)) s.0 in
            let push : length (L ++ n ∷ []) ≡ length L + 1 = length_push L n in
            let b =
            begins_more L x.begins.0 n
            (subst (λ zs. slice_get zs (length L) ≡ Some n) (sym x.begins.1) s.0) in
            inr (
              node.0,
              node.1,
              λ c.
                  let p = place_of L n c in
                  let e : p.0 ≡ length L =
                  x.distinct p.0 (length L) n (begins_at L M x.begins p.0 n p.1) s.0 in
                  let h : p.0 < length L = slice_get_within L p.0 n p.1 in
                  omega arith,
              (
                ends,
                record {
                  begins = (b.0, b.1 ∙ x.begins.1);
                  distinct = x.distinct;
                  above = λ i l h. x.above i (omega arith) h;
                  within = λ i l h. x.within i (omega arith) h;
                  from_roots =
                      subst (λ z. Walks M ends (node.0.refs ++ Q) z (length M)) (sym push)
                      (join_walks M ends node.0.refs Q (length L + 1) (ends (length L)) (length M) node.2
                      (subst (λ z. Walks M ends Q z (length M)) s.1 w.2));
                  nodes = λ i m l e. x.nodes i m (omega arith) e;
                },
              ),
            )
      ]

  refold_known : Contains L n → IsExtension S L Q M → IsExtension S L (n ∷ Q) M
  refold_known c y =
      let p = place_of L n c in (
        y.0,
        extension_as y.1
            (length L, inl (p.0, slice_get_within L p.0 n p.1, begins_at L M y.1.begins p.0 n p.1, refl), y.1.from_roots)
            y.1.nodes,
      )

-- the ends with another one at a place
ends_with : ℕ → ℕ → (ℕ → ℕ) → ℕ → ℕ
ends_with at b f i = cond (eqb i at) b (f i)

ends_same : (at b : ℕ) (f : ℕ → ℕ) (i : ℕ) → i ≡ at → b ≡ ends_with at b f i
unfolding ends_with
ends_same at b f i e = ap (λ t. cond t b (f i)) (sym (eq-eqb i at e))

ends_other : (at b : ℕ) (f : ℕ → ℕ) (i : ℕ) → (i ≡ at → ⊥) → f i ≡ ends_with at b f i
unfolding ends_with
ends_other at b f i e = ap (λ t. cond t b (f i)) (sym (ne_eqb i at e))

module _ {Sh N : Type 0} (S : System Sh N) (L : List N) (n : N) (Q M : List N) (d : Entry Sh N)
    (known : S n ≡ Some d) (f : ℕ → ℕ) (x : IsExtensionWith S (L ++ n ∷ []) (d.refs ++ Q) M f) where
  long : length (L ++ n ∷ []) ≡ length L + 1
  long = length_push L n

  half : (b : ℕ) × Walks M f d.refs (length (L ++ n ∷ [])) b × Walks M f Q b (length M)
  half = split_walk M f d.refs Q (length (L ++ n ∷ [])) (length M) x.from_roots

  stands : slice_get M (length L) ≡ Some n
  stands = begins_at (L ++ n ∷ []) M x.begins (length L) n (at_seam L [] n)

  end_above : length L + 1 ≤ half.0
  end_above =
      let up : length (L ++ n ∷ []) ≤ half.0 =
      walk_rises M f (length (L ++ n ∷ [])) x.above d.refs (length (L ++ n ∷ [])) half.0
      (le_refl (length (L ++ n ∷ []))) half.1 in
      let l = long in omega arith

  end_within : half.0 ≤ length M
  end_within =
      let l = long in
      let a = end_above in
      walk_rises M f (length (L ++ n ∷ [])) x.above Q half.0 (length M) (omega arith) half.2

  more_ends : ℕ → ℕ
  more_ends = ends_with (length L) half.0 f

  move_rest :
      (rs : List N) (a c : ℕ)
      → length L + 1 ≤ a → Walks M f rs a c → Walks M more_ends rs a c
  unfolding more_ends
  move_rest rs a c h w =
      let l = long in
      move_walk M f (length (L ++ n ∷ [])) x.above M more_ends (λ i m e. e)
      (λ i b h. ends_other (length L) half.0 f i (λ e. omega arith)) rs a c (omega arith) w

  more_above : (i : ℕ) → length L ≤ i → i < length M → i < more_ends i
  unfolding more_ends
  more_above i b h =
      elim (cases_eq i (length L)) [
        | inl e ↦ let a = end_above in subst (λ z. i < z) (ends_same (length L) half.0 f i e) (let q : i < half.0 = omega arith in q)
        | inr ne ↦ let l = long in subst (λ z. i < z) (ends_other (length L) half.0 f i ne) (x.above i (omega arith) h)
      ]

  more_within : (i : ℕ) → length L ≤ i → i < length M → more_ends i ≤ length M
  unfolding more_ends
  more_within i b h =
      elim (cases_eq i (length L)) [
        | inl e ↦ subst (λ z. z ≤ length M) (ends_same (length L) half.0 f i e) end_within
        | inr ne ↦ let l = long in subst (λ z. z ≤ length M) (ends_other (length L) half.0 f i ne) (x.within i (omega arith) h)
      ]

  more_nodes : EndsFrom S M more_ends (length L)
  unfolding more_ends
  more_nodes i m b at =
      elim (cases_eq i (length L)) [
        | inl e ↦
            let same : n ≡ m =
            same_Some n m (sym stands ∙ subst (λ z. slice_get M z ≡ Some m) e at) in
            let w : Walks M f d.refs (i + 1) half.0 =
            subst (λ z. Walks M f d.refs z half.0) (let q : length (L ++ n ∷ []) ≡ i + 1 = (let l = long in omega arith) in q) half.1 in (
              d,
              subst (λ z. S z ≡ Some d) same known,
              subst (λ z. Walks M more_ends d.refs (i + 1) z) (ends_same (length L) half.0 f i e) (move_rest d.refs (i + 1) half.0 (omega arith) w),
            )
        | inr ne ↦
            let l = long in
            let y = x.nodes i m (omega arith) at in (
              y.0,
              y.1,
              subst (λ z. Walks M more_ends y.0.refs (i + 1) z) (ends_other (length L) half.0 f i ne) (move_rest y.0.refs (i + 1) (f i) (omega arith) y.2),
            )
      ]

  refold_new : IsExtension S L (n ∷ Q) M
  unfolding more_ends
  refold_new = (
    more_ends,
    record {
      begins = (n ∷ x.begins.0, sym (append_assoc L (n ∷ []) x.begins.0) ∙ x.begins.1);
      distinct = x.distinct;
      above = more_above;
      within = more_within;
      from_roots = (
        half.0,
        inr (stands, ends_same (length L) half.0 f (length L) refl),
        move_rest Q half.0 (length M) end_above half.2,
      );
      nodes = more_nodes;
    },
  )

-- the two ways to extend by a first reference, and no other
pub extension_unfolds :
    {Sh N : Type 0} (S : System Sh N) (L : List N) (n : N) (Q M : List N)
    → IsExtension S L (n ∷ Q) M ↔ IsExtensionByOne S L n Q M
extension_unfolds S L n Q M = (
  λ x. unfold_extension S L n Q M x.0 x.1,
  λ s. elim s [ inl y ↦ refold_known S L n Q M y.0 y.1 | inr y ↦ refold_new S L n Q M y.0 y.1 y.3.0 y.3.1 ],
)

-- by nothing
pub extends_by_none :
    {Sh N : Type 0} (S : System Sh N) (L : List N)
    → AreDistinct L → IsExtension S L [] L
extends_by_none S L distinct = (
  λ i. i,
  record {
    begins = ([], append-nil L);
    distinct = distinct;
    above = λ i b h. absurd (omega arith);
    within = λ i b h. absurd (omega arith);
    from_roots = refl;
    nodes = λ i n b e. absurd (let h : i < length L = slice_get_within L i n e in omega arith);
  },
)

-- by a node that is known
pub extends_by_known :
    {Sh N : Type 0} (S : System Sh N) (L : List N) (n : N)
    → AreDistinct L → Contains L n → IsExtension S L (n ∷ []) L
extends_by_known S L n distinct c =
    (extension_unfolds S L n [] L).1 (inl (c, extends_by_none S L distinct))
