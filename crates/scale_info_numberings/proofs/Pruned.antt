-- A numbering of a table of a numbering.
use Rattle.std.proofs.Common.{Contains, List, Some, ap, arith, eq-or-lt_of_le, inl, inr, length}
use Rattle.std.proofs.Common.{refl, slice_get, slice_index, subst, suc, sym, zero, zero-add}
use Rattle.std.proofs.Common.{zero-le, ℕ, ◌+◌, ◌<◌, ◌↔◌, ◌∙◌, ◌≡◌, ◌≤◌}
use Rattle.std.proofs.lemmas.List.FromFn.{length-range_with_len}
use Rattle.std.proofs.lemmas.Option.{same_Some, slice_get-get_or, slice_get_within}
use Rattle.std.proofs.lemmas.Slice.Zip.{AllZip-long}
use Rattle.std.specs.List.{AllZip, range_with_len}
use Rattle.scale_info_numberings.proofs.Transfer.{Carries, carry_numbering, carry_table}
use Rattle.scale_info_numberings.proofs.Extensions.{one_numbering}
use Rattle.scale_info_numberings.proofs.Places.{at_range, contains_at, in_range}
use Rattle.scale_info_numberings.proofs.PlacesOf.{read_exists}
use Rattle.scale_info_numberings.proofs.Zip.{zip_at, zip_right, zip_turned, zip_weaker}
use Rattle.scale_info_numberings.proofs.Tables.{entry_at, one_table, table_exists}
use Rattle.scale_info_numberings.proofs.Walking.{SamePlace, places_of_walk, walk_members}
use Rattle.scale_info_numberings.specs.Numberings.{AreDistinct, IsNumbering, Walks}
use Rattle.scale_info_numberings.specs.Systems.{Entry, System}
use Rattle.scale_info_numberings.specs.Tables.{ArePlaces, IsTable, all_places, table_system}

module _ {Sh N : Type 0} (S : System Sh N) (L : List N) (distinct : AreDistinct L)
    (T : List (Entry Sh ℕ)) (x : IsTable S L T) (C K : List ℕ)
    (y : IsNumbering (table_system T) C K) where
  -- each kept place is one of L
  kept_within : (c : ℕ) → Contains K c → c < length L
  kept_within c h =
      let d = y.1.nodes h.0 c (slice_get-get_or K h.0 c h.1 ∙ ap Some h.2) in
      subst (λ z. c < z) x.long (slice_get_within T c d.0 d.1)

  root_kept : (c : ℕ) → Contains C c → (i : ℕ) × (slice_get K i ≡ Some c)
  root_kept c h = walk_members K (λ k. slice_index y.0 k) C 0 (length K) y.1.from_roots c h

  module _ (M : List N) (z : ArePlaces L M K) where
    read_place :
        (i c : ℕ) (n : N)
        → slice_get K i ≡ Some c → slice_get L c ≡ Some n → SamePlace K M c n
    read_place i c n e h =
        let m =
        zip_right (λ p r. slice_get L p ≡ Some r) K M
        (zip_turned (λ r p. slice_get L p ≡ Some r) M K z) i c e in
        (i, e, m.1 ∙ (sym m.2 ∙ h))

    read_carries : Carries (table_system T) K S M
    read_carries =
        record {
          long = AllZip-long (λ r p. slice_get L p ≡ Some r) M K z;
          from_distinct = y.1.order.distinct;
          distinct = λ i j n e h.
              let c = zip_right (λ r p. slice_get L p ≡ Some r) M K z i n e in
              let b = zip_right (λ r p. slice_get L p ≡ Some r) M K z j n h in
              y.1.order.distinct i j c.0 c.1 (b.1 ∙ ap Some (distinct b.0 c.0 n b.2 c.2));
          alike = λ i c n t e h s.
              let at : slice_get L c ≡ Some n =
              zip_at (λ r p. slice_get L p ≡ Some r) M K z i n c h e in
              let d = x.entries c n at in
              let p = entry_at S L T x c n d.0 t at d.2 s in
              let w = y.1.nodes i c e in
              let same : w.0 ≡ t = same_Some w.0 t (sym w.1 ∙ s) in (
                d.0,
                d.2,
                p.0,
                zip_weaker (λ q r. slice_get L q ≡ Some r) (λ q r. SamePlace K M q r) t.refs d.0.refs
                    (λ q r k l f.
                    let m =
                    walk_members K (λ k. slice_index y.0 k) w.0.refs (i + 1)
                    (slice_index y.0 i) w.2 q
                    (subst (λ (u : Entry Sh ℕ). Contains u.refs q) (sym same) k) in
                    read_place m.0 q r m.1 f)
                    (zip_turned (λ r q. slice_get L q ≡ Some r) d.0.refs t.refs p.1),
              );
        }

    -- the kept places, read as nodes, are a numbering
    pub read_numbering : (R : List N) → ArePlaces L R C → IsNumbering S R M
    read_numbering R r =
        carry_numbering (table_system T) K S M read_carries C R
        (zip_weaker (λ c n. slice_get L c ≡ Some n) (λ c n. SamePlace K M c n) C R
        (λ c n k l f. let m = root_kept c k in read_place m.0 c n m.1 f) (zip_turned (λ n c. slice_get L c ≡ Some n) R C r))
        y

    -- with the same table
    pub read_table : (U : List (Entry Sh ℕ)) → IsTable (table_system T) K U → IsTable S M U
    read_table = carry_table (table_system T) K S M read_carries

module _ {Sh N : Type 0} (S : System Sh N) (roots L : List N) (T : List (Entry Sh ℕ)) (C K : List ℕ)
    (l : IsNumbering S roots L) (x : IsTable S L T) (y : IsNumbering (table_system T) C K) where
  apart : AreDistinct L
  apart = l.1.order.distinct

  -- each root and each kept place is the place of a node
  pub pruned_reading : (tops M : List N) × ArePlaces L tops C × ArePlaces L M K
  pruned_reading =
      let m = read_exists L K (kept_within S L apart T x C K y) in
      let r =
      read_exists L C
      (λ c h. let p = root_kept S L apart T x C K y c h in kept_within S L apart T x C K y c (contains_at K c p.0 p.1)) in
      (r.0, m.0, r.1, m.1)

  module _ (tops M : List N) (r : ArePlaces L tops C) (z : ArePlaces L M K) where
    -- the kept places, read as nodes, are a numbering from the chosen nodes
    pub pruned_numbering : IsNumbering S tops M
    pruned_numbering = read_numbering S L apart T x C K y M z tops r

    -- with the same table
    pub pruned_table : (U : List (Entry Sh ℕ)) → IsTable (table_system T) K U ↔ IsTable S M U
    pruned_table U = (
      read_table S L apart T x C K y M z U,
      λ u.
          let t = table_exists (table_system T) C K y in
          subst (λ (V : List (Entry Sh ℕ)). IsTable (table_system T) K V)
          (one_table S M pruned_numbering.1.order.distinct t.0 U (read_table S L apart T x C K y M z t.0 t.1) u) t.1,
    )

-- all places in order walk to the end
range_walk :
    (n : ℕ) (ends : ℕ → ℕ)
    → ((i : ℕ) → i < n → i < ends i)
    → ((i : ℕ) → i < n → ends i ≤ n)
    → (m i a : ℕ)
    → i + m ≡ n
    → i ≤ a
    → a ≤ n
    → Walks (range_with_len 0 n) ends (range_with_len i m) a n
range_walk n ends up in' zero i a e low high = omega arith
range_walk n ends up in' (suc m) i a e low high =
    elim (eq-or-lt_of_le low) [
      | inl q ↦
          let h : a < n = omega arith in
          let u = up a h in (
            ends a,
            inr (at_range n a h ∙ ap Some (sym q), refl),
            range_walk n ends up in' m (i + 1) (ends a) (omega arith) (omega arith) (in' a h),
          )
      | inr q ↦ (a, inl (i, q, at_range n i (omega arith), refl), range_walk n ends up in' m (i + 1) a (omega arith) (omega arith) high)
    ]

module _ {Sh N : Type 0} (S : System Sh N) (L : List N) (T : List (Entry Sh ℕ)) (x : IsTable S L T)
    (distinct : AreDistinct L) where
  every_place : List ℕ
  every_place = range_with_len 0 (length L)

  range_carries : Carries S L (table_system T) every_place
  unfolding every_place
  range_carries =
      record {
        long = sym (length-range_with_len 0 (length L));
        from_distinct = distinct;
        distinct = λ i j n e h. sym (in_range (length L) i n e).1 ∙ (in_range (length L) j n h).1;
        alike = λ i n p d e h s.
            let q = in_range (length L) i p h in
            let t = x.entries i n e in
            let same : t.0 ≡ d = same_Some t.0 d (sym t.2 ∙ s) in (
              t.1,
              ap (λ z. slice_get T z) q.1 ∙ t.3,
              sym (t.4 ∙ ap (λ (z : Entry Sh N). z.shape) same),
              subst (λ (z : Entry Sh N). AllZip (λ r p. SamePlace L (range_with_len 0 (length L)) r p) z.refs t.1.refs) same
                  (zip_weaker (λ r p. slice_get L p ≡ Some r) (λ r p. SamePlace L (range_with_len 0 (length L)) r p) t.0.refs t.1.refs
                  (λ r p k l f. (p, f, at_range (length L) p (slice_get_within L p r f))) t.5),
            );
      }

-- all places in order are a numbering from all places in order, with the same table
pub numbering_of_all :
    {Sh N : Type 0} (S : System Sh N) (R L : List N) (T : List (Entry Sh ℕ))
    → IsNumbering S R L
    → IsTable S L T
    → IsNumbering (table_system T) (range_with_len 0 (length L)) (range_with_len 0 (length L))
    × IsTable (table_system T) (range_with_len 0 (length L)) T
unfolding every_place
numbering_of_all S R L T l x =
    let distinct = l.1.order.distinct in
    let n = length L in
    let all = range_with_len 0 n in
    let c = range_carries S L T x distinct in
    let ps = places_of_walk L (λ k. slice_index l.0 k) R 0 n l.1.from_roots in
    let some =
    carry_numbering S L (table_system T) all c R ps.0
    (zip_weaker (λ r p. slice_get L p ≡ Some r) (λ r p. SamePlace L all r p) R ps.0
    (λ r p k h f. (p, f, at_range n p (slice_get_within L p r f))) ps.1)
    l in
    let E = some.0 in
    let o = some.1.order in
    let long : length all ≡ n = length-range_with_len 0 n in (
      (
        E,
        record {
          order = o;
          from_roots =
              subst (λ z. Walks all (λ k. slice_index E k) all 0 z) (sym long)
              (range_walk n (λ k. slice_index E k) (λ i h. o.above i (omega arith)) (λ i h. let p = o.within i (omega arith) in omega arith) n 0 0 (zero-add n)
              zero-le zero-le);
          nodes = some.1.nodes;
        },
      ),
      carry_table S L (table_system T) all c T x,
    )

module _ {Sh N : Type 0} (S : System Sh N) (R L : List N) (T : List (Entry Sh ℕ))
    (l : IsNumbering S R L) (x : IsTable S L T) where
  numbering_of_each : IsNumbering (table_system T) (all_places T) (all_places T)
  numbering_of_each =
      subst (λ n. IsNumbering (table_system T) (range_with_len 0 n) (range_with_len 0 n))
      (sym x.long) (numbering_of_all S R L T l x).0

  -- and there is no other
  pub keep_all_is_identity :
      (K : List ℕ)
      → IsNumbering (table_system T) (all_places T) K ↔ (K ≡ all_places T)
  keep_all_is_identity K = (
    λ y. one_numbering (table_system T) (all_places T) K (all_places T) y numbering_of_each,
    λ e. subst (λ z. IsNumbering (table_system T) (all_places T) z) (sym e) numbering_of_each,
  )

  -- the table stays as it was
  pub keep_all_table : IsTable (table_system T) (all_places T) T
  keep_all_table =
      subst (λ n. IsTable (table_system T) (range_with_len 0 n) T) (sym x.long)
      (numbering_of_all S R L T l x).1
