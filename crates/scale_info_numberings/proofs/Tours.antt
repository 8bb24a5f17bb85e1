-- The walk through a list of references with the walks below it, as one derivation.
use Rattle.std.proofs.Common.{List, Some, [], arith, eq-or-lt_of_le, inl, inr, le_refl, length}
use Rattle.std.proofs.Common.{refl, slice_get, subst, suc, sym, zero, ℕ, ◌+◌, ◌<◌, ◌∙◌, ◌∷◌, ◌≡◌}
use Rattle.std.proofs.Common.{◌≤◌}
use Rattle.std.proofs.lemmas.Option.{same_Some, slice_get_within}
use Rattle.scale_info_numberings.specs.Extensions.{IsExtensionWith}
use Rattle.scale_info_numberings.specs.Numberings.{AreDistinct, Walks}
use Rattle.scale_info_numberings.specs.Systems.{Entry, System}

-- references from one mark to another: each stands below the mark, or is discovered at it, with a
-- tour of its own references
pub data Tour {Sh N : Type 0} (S : System Sh N) (L : List N) : List N → ℕ → ℕ → Type 0 where
  done : {a : ℕ} → Tour S L [] a a
  seen :
      {r : N} {rs : List N} {a c : ℕ} (i : ℕ)
      → i < a → slice_get L i ≡ Some r → Tour S L rs a c → Tour S L (r ∷ rs) a c
  first :
      {r : N} {rs : List N} {a c : ℕ} (b : ℕ) (d : Entry Sh N)
      → slice_get L a ≡ Some r
      → S r ≡ Some d
      → Tour S L d.refs (a + 1) b
      → Tour S L rs b c → Tour S L (r ∷ rs) a c

-- the mark never falls
pub tour_rises :
    {Sh N : Type 0} {S : System Sh N} {L : List N} {rs : List N} {a c : ℕ}
    → Tour S L rs a c → a ≤ c
tour_rises {a = a} done = le_refl a
tour_rises (seen i h e t) = tour_rises t
tour_rises (first b d e s below t) = let p = tour_rises below in let q = tour_rises t in omega arith

module _ {Sh N : Type 0} (S : System Sh N) (K roots L : List N) (ends : ℕ → ℕ)
    (x : IsExtensionWith S K roots L ends) where
  tour_list :
      (k : ℕ)
      → ((a : ℕ) (rs : List N) (c : ℕ) → length K ≤ a → a < length L → length L ≤ a + k → Walks L ends rs (a + 1) c → Tour S L rs (a + 1) c)
      → (rs : List N) (a c : ℕ) → length K ≤ a → length L ≤ a + k → Walks L ends rs a c
      → Tour S L rs a c
  tour_list k deeper [] a c base room w = subst (λ z. Tour S L [] a z) w done
  tour_list k deeper (r ∷ rs) a c base room w =
      elim w.1 [
        | inl s ↦ seen s.0 s.1 s.2 (tour_list k deeper rs a c base room (subst (λ z. Walks L ends rs z c) s.3 w.2))
        | inr s ↦
            let inside : a < length L = slice_get_within L a r s.0 in
            let up : a < ends a = x.above a base inside in
            let node = x.nodes a r base s.0 in
            first (ends a) node.0 s.0 node.1 (deeper a node.0.refs (ends a) base inside room node.2)
            (tour_list k deeper rs (ends a) c (omega arith) (omega arith) (subst (λ z. Walks L ends rs z c) s.1 w.2))
      ]

  tour_at :
      (k : ℕ) (rs : List N) (a c : ℕ)
      → length K ≤ a → length L ≤ a + k → Walks L ends rs a c → Tour S L rs a c
  tour_at zero = tour_list zero (λ a rs c base inside room w. absurd (omega arith))
  tour_at (suc k) =
      tour_list (suc k)
      (λ a rs c base inside room w. tour_at k rs (a + 1) c (omega arith) (omega arith) w)

  -- the roots of an extension have a tour of the new places
  pub tour_of : Tour S L roots (length K) (length L)
  tour_of =
      tour_at (length L) roots (length K) (length L) (le_refl (length K)) (omega arith) x.from_roots

-- two lists agree below a place
abbrev pub AgreeBelow : {N : Type 0} → List N → List N → ℕ → Type 0
AgreeBelow L M a = (i : ℕ) → i < a → slice_get L i ≡ slice_get M i

agree_more :
    {N : Type 0} (L M : List N) (a : ℕ)
    → AgreeBelow L M a → slice_get L a ≡ slice_get M a → AgreeBelow L M (a + 1)
agree_more L M a g e i h =
    let le : i ≤ a = omega arith in
    elim (eq-or-lt_of_le le) [ inl q ↦ subst (λ z. slice_get L z ≡ slice_get M z) (sym q) e | inr q ↦ g i q ]

module _ {Sh N : Type 0} (S : System Sh N) (L M : List N) (dl : AreDistinct L)
    (dm : AreDistinct M) where
  -- two tours of the same references from the same mark, in lists that agree below it, end at one
  -- mark, and the lists agree below that
  pub same_tours :
      {rs : List N} {a c : ℕ}
      → Tour S L rs a c → (e : ℕ) → Tour S M rs a e → AgreeBelow L M a → (c ≡ e) × AgreeBelow L M c
  same_tours done e done g = (refl, g)
  same_tours (seen i h p t) e (seen j k q u) g = same_tours t e u g
  same_tours {a = a} (seen {r = r} i h p t) e (first b d q s below u) g =
      absurd (let same : i ≡ a = dm i a r (sym (g i h) ∙ p) q in omega arith)
  same_tours {a = a} (first {r = r} b d q s below u) e (seen i h p t) g =
      absurd (let same : i ≡ a = dl i a r (g i h ∙ p) q in omega arith)
  same_tours {a = a} (first {r = r} {rs = rs} b d p s below t) e (first b' d' q s' below' u) g =
      let same : d' ≡ d = same_Some d' d (sym s' ∙ s) in
      let v =
      same_tours below b' (subst (λ (z : Entry Sh N). Tour S M z.refs (a + 1) b') same below')
      (agree_more L M a g (p ∙ sym q)) in
      same_tours t e (subst (λ z. Tour S M rs z e) (sym v.0) u) v.1
