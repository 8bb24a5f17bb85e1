-- What a numbering holds.
use Rattle.std.proofs.Common.{Contains, List, Some, [], arith, eq-or-lt_of_le, inl, inr, le_refl}
use Rattle.std.proofs.Common.{length, slice_get, subst, sym, zero-le, ℕ, ◌+◌, ◌<◌, ◌↔◌, ◌∙◌, ◌≡◌}
use Rattle.std.proofs.Common.{◌≤◌, ◌⊎◌}
use Rattle.std.proofs.lemmas.Bool.{cases_lt}
use Rattle.std.proofs.lemmas.Option.{same_Some, slice_get_within}
use Rattle.scale_info_numberings.proofs.Extensions.{extension_of_numbering}
use Rattle.scale_info_numberings.proofs.Places.{begins_at, begins_from, contains_at, contains_head}
use Rattle.scale_info_numberings.proofs.Places.{contains_tail, place_of}
use Rattle.scale_info_numberings.proofs.Tours.{Tour, done, first, seen, tour_of, tour_rises}
use Rattle.scale_info_numberings.proofs.Walking.{walk_members}
use Rattle.scale_info_numberings.specs.Extensions.{IsExtension, IsExtensionWith}
use Rattle.scale_info_numberings.specs.Numberings.{IsNumbering}
use Rattle.scale_info_numberings.specs.Systems.{Entry, IsReached, IsReachedPast, System, next, root}

module _ {Sh N : Type 0} (S : System Sh N) (K R L : List N)
    (new : (i : ℕ) (n : N) → length K ≤ i → slice_get L i ≡ Some n → Contains K n → ⊥) where
  tour_reaches :
      {rs :
      List N} {a c : ℕ} → Tour S L rs a c → length K ≤ a → ((n : N) → Contains rs n
      → (Contains K n → ⊥) → IsReachedPast S K R n)
      → (i : ℕ) (n : N) → a ≤ i → i < c → slice_get L i ≡ Some n → IsReachedPast S K R n
  tour_reaches done base from i n low high e = absurd (omega arith)
  tour_reaches (seen {r = r} {rs = rs} j h p t) base from i n low high e =
      tour_reaches t base (λ m c u. from m (contains_tail r rs m c) u) i n low high e
  tour_reaches {a = a} {c = c} (first {r = r} {rs = rs} b d p s below t) base from i n low high e =
      let up = tour_rises below in
      let here : IsReachedPast S K R r = from r (contains_head r rs) (new a r base p) in
      elim (eq-or-lt_of_le low) [
        | inl q ↦ subst (λ m. IsReachedPast S K R m) (same_Some r n (sym p ∙ subst (λ j. slice_get L j ≡ Some n) (sym q) e)) here
        | inr q ↦
            elim (cases_lt i b) [
              | inl under ↦ tour_reaches below (omega arith) (λ m k u. next r m d here s k u) i n (omega arith) under e
              | inr over ↦ tour_reaches t (omega arith) (λ m k u. from m (contains_tail r rs m k) u) i n over high e
            ]
      ]

module _ {Sh N : Type 0} (S : System Sh N) (K R M : List N) (ends : ℕ → ℕ)
    (x : IsExtensionWith S K R M ends) where
  fresh : (i : ℕ) (n : N) → length K ≤ i → slice_get M i ≡ Some n → Contains K n → ⊥
  fresh i n b e c =
      let p = place_of K n c in
      let q : p.0 ≡ i = x.distinct p.0 i n (begins_at K M x.begins p.0 n p.1) e in
      let h : p.0 < length K = slice_get_within K p.0 n p.1 in
      omega arith

  -- each new place has a node that is reached
  pub new_reached : (i : ℕ) (n : N) → length K ≤ i → slice_get M i ≡ Some n → IsReachedPast S K R n
  new_reached i n b e =
      tour_reaches S K R M fresh (tour_of S K R M ends x) (le_refl (length K))
      (λ m c u. root m c u) i n b (slice_get_within M i n e) e

  old_or_new :
      (i : ℕ) (n : N)
      → slice_get M i ≡ Some n → (Contains K n → ⊥)
      → (j : ℕ) × (length K ≤ j) × (slice_get M j ≡ Some n)
  old_or_new i n e u =
      elim (cases_lt i (length K)) [ inl low ↦ absurd (u (contains_at K n i (begins_from K M x.begins i n low e))) | inr high ↦ (i, high, e) ]

  -- each node that is reached has a new place
  pub reached_new :
      (n : N)
      → IsReachedPast S K R n → (i : ℕ) × (length K ≤ i) × (slice_get M i ≡ Some n)
  reached_new n (root m c u) =
      let p = walk_members M ends R (length K) (length M) x.from_roots n c in old_or_new p.0 n p.1 u
  reached_new n (next m k d h s c u) =
      let at = reached_new m h in
      let node = x.nodes at.0 m at.1 at.2 in
      let p =
      walk_members M ends node.0.refs (at.0 + 1) (ends at.0) node.2 n
      (subst (λ (z : Entry Sh N). Contains z.refs n) (same_Some d node.0 (sym s ∙ node.1)) c) in
      old_or_new p.0 n p.1 u

-- an extension holds the old nodes and what is reached past them
pub extension_holds :
    {Sh N : Type 0} (S : System Sh N) (K R M : List N)
    → IsExtension S K R M → (n : N) → Contains M n ↔ (Contains K n ⊎ IsReachedPast S K R n)
extension_holds S K R M x n = (
  λ c.
      let p = place_of M n c in
      elim (cases_lt p.0 (length K)) [
        | inl low ↦ inl (contains_at K n p.0 (begins_from K M x.1.begins p.0 n low p.1))
        | inr high ↦ inr (new_reached S K R M x.0 x.1 p.0 n high p.1)
      ],
  λ s.
      elim s [
        | inl c ↦ let p = place_of K n c in contains_at M n p.0 (begins_at K M x.1.begins p.0 n p.1)
        | inr h ↦ let p = reached_new S K R M x.0 x.1 n h in contains_at M n p.0 p.2
      ],
)

-- a numbering holds what is reached
pub reached_exactly :
    {Sh N : Type 0} (S : System Sh N) (R L : List N)
    → IsNumbering S R L → (n : N) → Contains L n ↔ IsReached S R n
reached_exactly S R L x n =
    let y = extension_of_numbering S R L x in (
      λ c. let p = place_of L n c in new_reached S [] R L y.0 y.1 p.0 n zero-le p.1,
      λ h. let p = reached_new S [] R L y.0 y.1 n h in contains_at L n p.0 p.2,
    )

-- what is reached past the old nodes is a node of the system
pub extension_inside :
    {Sh N : Type 0} (S : System Sh N) (K R M : List N)
    → IsExtension S K R M → (n : N) → IsReachedPast S K R n → (d : Entry Sh N) × (S n ≡ Some d)
extension_inside S K R M x n h =
    let at = reached_new S K R M x.0 x.1 n h in let d = x.1.nodes at.0 n at.1 at.2 in (d.0, d.1)

-- what is reached where there is a numbering is a node of the system
pub numbering_inside :
    {Sh N : Type 0} (S : System Sh N) (R L : List N)
    → IsNumbering S R L → (n : N) → IsReached S R n → (d : Entry Sh N) × (S n ≡ Some d)
numbering_inside S R L x n h = extension_inside S [] R L (extension_of_numbering S R L x) n h
