-- Systems that match have one numbering and one table, and the other way round.
use Rattle.std.proofs.Common.{Contains, List, Some, [], ap, inl, inr, length, slice_get}
use Rattle.std.proofs.Common.{slice_index, subst, suc, sym, zero, zip, ℕ, ◌+◌, ◌<◌, ◌↔◌, ◌∙◌, ◌∷◌}
use Rattle.std.proofs.Common.{◌≡◌}
use Rattle.std.proofs.lemmas.Option.{none-some, same_Some, slice_get_within}
use Rattle.std.proofs.lemmas.Slice.Zip.{AllZip-long}
use Rattle.std.specs.List.{AllZip}
use Rattle.scale_info_numberings.proofs.Transfer.{Carries, carry_numbering, carry_places}
use Rattle.scale_info_numberings.proofs.Transfer.{carry_table}
use Rattle.scale_info_numberings.proofs.Extensions.{one_numbering}
use Rattle.scale_info_numberings.proofs.Places.{contains_at, contains_head, contains_tail}
use Rattle.scale_info_numberings.proofs.Places.{element_at, place_of}
use Rattle.scale_info_numberings.proofs.PlacesOf.{one_place}
use Rattle.scale_info_numberings.proofs.Reached.{reached_exactly}
use Rattle.scale_info_numberings.proofs.Zip.{zip_at, zip_joined, zip_right, zip_turned, zip_weaker}
use Rattle.scale_info_numberings.proofs.Tables.{one_table, table_exists}
use Rattle.scale_info_numberings.proofs.Walking.{SamePlace, places_of_walk, walk_members}
use Rattle.scale_info_numberings.specs.Matches.{IsMatch, Pairs}
use Rattle.scale_info_numberings.specs.Numberings.{IsNumbering}
use Rattle.scale_info_numberings.specs.Systems.{Entry, System}
use Rattle.scale_info_numberings.specs.Tables.{ArePlaces, IsTable}

partners :
    {N P : Type 0} (pairs : List (N × P)) (L : List N)
    → ((n : N) → Contains L n → (p : P) × Pairs pairs n p)
    → (M : List P) × AllZip (λ n p. Pairs pairs n p) L M
partners pairs [] f = ([], tt)
partners pairs (n ∷ L) f =
    let p = f n (contains_head n L) in
    let r = partners pairs L (λ m c. f m (contains_tail n L m c)) in
    (p.0 ∷ r.0, (p.1, r.1))

module _ {Sh N P : Type 0} (S : System Sh N) (R : List N) (U : System Sh P) (tops : List P)
    (pairs : List (N × P)) (m : IsMatch S R U tops pairs) (L : List N) (x : IsNumbering S R L)
    (M : List P) (z : AllZip (λ n p. Pairs pairs n p) L M) where
  pair_place : (n : N) (p : P) → Contains L n → Pairs pairs n p → SamePlace L M n p
  pair_place n p c h =
      let i = place_of L n c in
      let q = zip_right (λ n p. Pairs pairs n p) L M z i.0 n i.1 in
      (i.0, i.1, q.1 ∙ ap Some (m.one_right n q.0 p q.2 h))

  match_carrier : Carries S L U M
  match_carrier =
      record {
        long = sym (AllZip-long (λ n p. Pairs pairs n p) L M z);
        from_distinct = x.1.order.distinct;
        distinct = λ i j p e h.
            let a =
            zip_right (λ p n. Pairs pairs n p) M L
            (zip_turned (λ n p. Pairs pairs n p) L M z) i p e in
            let b =
            zip_right (λ p n. Pairs pairs n p) M L
            (zip_turned (λ n p. Pairs pairs n p) L M z) j p h in
            x.1.order.distinct i j a.0 a.1 (b.1 ∙ ap Some (m.one_left b.0 a.0 p b.2 a.2));
        alike = λ i n p d e h s.
            let w = x.1.nodes i n e in
            let pair = zip_at (λ n p. Pairs pairs n p) L M z i n p e h in
            elim (m.alike n p pair) [
              | inl o ↦ absurd (none-some d (sym o.0 ∙ s))
              | inr a ↦
                  let same : a.0 ≡ d = same_Some a.0 d (sym a.2 ∙ s) in
                  let here : w.0 ≡ d = same_Some w.0 d (sym w.1 ∙ s) in (
                    a.1,
                    a.3,
                    subst (λ (y : Entry Sh N). y.shape ≡ a.1.shape) same a.4,
                    zip_weaker (λ r q. Pairs pairs r q) (λ r q. SamePlace L M r q) d.refs a.1.refs
                        (λ r q k l f.
                        let at =
                        walk_members L (λ k. slice_index x.0 k) w.0.refs (i + 1)
                        (slice_index x.0 i) w.2 r
                        (subst (λ (y : Entry Sh N). Contains y.refs r) (sym here) k) in
                        pair_place r q (contains_at L r at.0 at.1) f)
                        (subst (λ (y : Entry Sh N). AllZip (λ r q. Pairs pairs r q) y.refs a.1.refs) same a.5),
                  )
            ];
      }

  roots_placed : AllZip (λ n p. SamePlace L M n p) R tops
  roots_placed =
      zip_weaker (λ n p. Pairs pairs n p) (λ n p. SamePlace L M n p) R tops
      (λ r q k l f.
      let at = walk_members L (λ k. slice_index x.0 k) R 0 (length L) x.1.from_roots r k in
      pair_place r q (contains_at L r at.0 at.1) f)
      m.in_order

-- a match has a partner for each node of a numbering
pub match_image :
    {Sh N P : Type 0} (S : System Sh N) (R : List N) (U : System Sh P) (tops : List P)
    (pairs : List (N × P)) (L : List N)
    → IsMatch S R U tops pairs
    → IsNumbering S R L → (M : List P) × AllZip (λ n p. Pairs pairs n p) L M
match_image S R U tops pairs L m x =
    partners pairs L (λ n c. m.all_left n ((reached_exactly S R L x n).0 c))

module _ {Sh N P : Type 0} (S : System Sh N) (R : List N) (U : System Sh P) (tops : List P)
    (pairs : List (N × P)) (L : List N) (M : List P) (m : IsMatch S R U tops pairs)
    (x : IsNumbering S R L) (z : AllZip (λ n p. Pairs pairs n p) L M) where
  -- the partners of a numbering are a numbering
  pub match_numbering : IsNumbering U tops M
  match_numbering =
      carry_numbering S L U M (match_carrier S R U tops pairs m L x M z) R tops
      (roots_placed S R U tops pairs m L x M z) x

  -- with the same table
  pub match_table : (T : List (Entry Sh ℕ)) → IsTable S L T ↔ IsTable U M T
  match_table T =
      let over = carry_table S L U M (match_carrier S R U tops pairs m L x M z) in (
        over T,
        λ u.
            let t = table_exists S R L x in
            subst (λ (V : List (Entry Sh ℕ)). IsTable S L V)
            (one_table U M match_numbering.1.order.distinct t.0 T (over t.0 t.1) u) t.1,
      )

  -- and the same places of the roots
  pub match_places : (C : List ℕ) → ArePlaces L R C ↔ ArePlaces M tops C
  match_places C =
      let over = λ (D : List ℕ) (h : ArePlaces L R D).
      carry_places S L U M (match_carrier S R U tops pairs m L x M z) R tops D (roots_placed S R U tops pairs m L x M z) h in (
        over C,
        λ d.
            let c = places_of_walk L (λ k. slice_index x.0 k) R 0 (length L) x.1.from_roots in
            subst (λ (D : List ℕ). ArePlaces L R D)
            (one_place M match_numbering.1.order.distinct tops c.0 C (over c.0 c.1) d) c.1,
      )

zip_both :
    {N P : Type 0} (L : List N) (M : List P) (i : ℕ) (n : N) (p : P)
    → slice_get L i ≡ Some n → slice_get M i ≡ Some p → slice_get (zip L M) i ≡ Some (n, p)
zip_both [] M i n p e h = absurd (none-some n e)
zip_both (a ∷ L) [] i n p e h = absurd (none-some p h)
zip_both (a ∷ L) (b ∷ M) zero n p e h =
    let x : a ≡ n = same_Some a n e in let y : b ≡ p = same_Some b p h in λ i. Some (x i, y i)
zip_both (a ∷ L) (b ∷ M) (suc i) n p e h = zip_both L M i n p e h

zip_parts :
    {N P : Type 0} (L : List N) (M : List P) (i : ℕ) (n : N) (p : P)
    → slice_get (zip L M) i ≡ Some (n, p) → (slice_get L i ≡ Some n) × (slice_get M i ≡ Some p)
zip_parts {N} {P} [] M i n p e = absurd (none-some {A = N × P} (n, p) e)
zip_parts {N} {P} (a ∷ L) [] i n p e = absurd (none-some {A = N × P} (n, p) e)
zip_parts {N} {P} (a ∷ L) (b ∷ M) zero n p e =
    let s = same_Some {A = N × P} (a, b) (n, p) e in
    (ap (λ (q : N × P). Some q.0) s, ap (λ (q : N × P). Some q.1) s)
zip_parts (a ∷ L) (b ∷ M) (suc i) n p e = zip_parts L M i n p e

module _ {N P : Type 0} (L : List N) (M : List P) where
  -- what stands at one place is paired
  pub paired : (n : N) (p : P) → SamePlace L M n p → Pairs (zip L M) n p
  paired n p s = contains_at (zip L M) (n, p) s.0 (zip_both L M s.0 n p s.1 s.2)

  -- what is paired stands at one place
  pub pair_parts : (n : N) (p : P) → Pairs (zip L M) n p → SamePlace L M n p
  pair_parts n p c =
      let i = place_of (zip L M) (n, p) c in let z = zip_parts L M i.0 n p i.1 in (i.0, z.0, z.1)

  -- nodes with the same places are paired one for one
  pub placed_alike :
      (ns : List N) (ps : List P) (is : List ℕ)
      → ArePlaces L ns is → ArePlaces M ps is → AllZip (λ n p. Pairs (zip L M) n p) ns ps
  placed_alike ns ps is x y =
      zip_joined (λ i n. slice_get L i ≡ Some n) (λ i p. slice_get M i ≡ Some p)
      (λ n p. Pairs (zip L M) n p)
      (λ i n p e h. paired n p (i, e, h)) is ns ps (zip_turned (λ n i. slice_get L i ≡ Some n) ns is x)
      (zip_turned (λ p i. slice_get M i ≡ Some p) ps is y)

-- the pairs are the nodes that have the same place
pub match_found :
    {Sh N P : Type 0} (S : System Sh N) (R L : List N) (U : System Sh P) (tops M : List P)
    (T : List (Entry Sh ℕ)) (C : List ℕ)
    → IsNumbering S R L
    → IsNumbering U tops M → IsTable S L T → IsTable U M T → ArePlaces L R C → ArePlaces M tops C
    → (pairs : List (N × P)) × IsMatch S R U tops pairs
match_found {Sh = Sh} S R L U tops M T C x y t u r q =
    let long : length L ≡ length M = sym t.long ∙ u.long in (
      zip L M,
      record {
        reached = λ n p c.
            let s = pair_parts L M n p c in
            ((reached_exactly S R L x n).0 (contains_at L n s.0 s.1), (reached_exactly U tops M y p).0 (contains_at M p s.0 s.2));
        all_left = λ n h.
            let i = place_of L n ((reached_exactly S R L x n).1 h) in
            let p = element_at M i.0 (subst (λ z. i.0 < z) long (slice_get_within L i.0 n i.1)) in
            (p.0, paired L M n p.0 (i.0, i.1, p.1));
        all_right = λ p h.
            let i = place_of M p ((reached_exactly U tops M y p).1 h) in
            let n =
            element_at L i.0 (subst (λ z. i.0 < z) (sym long) (slice_get_within M i.0 p i.1)) in
            (n.0, paired L M n.0 p (i.0, n.1, i.1));
        one_right = λ n p q a b.
            let s = pair_parts L M n p a in
            let v = pair_parts L M n q b in
            same_Some p q
            (sym s.2 ∙ (ap (λ z. slice_get M z) (x.1.order.distinct s.0 v.0 n s.1 v.1) ∙ v.2));
        one_left = λ n m p a b.
            let s = pair_parts L M n p a in
            let v = pair_parts L M m p b in
            same_Some n m
            (sym s.1 ∙ (ap (λ z. slice_get L z) (y.1.order.distinct s.0 v.0 p s.2 v.2) ∙ v.1));
        alike = λ n p a.
            let s = pair_parts L M n p a in
            let d = t.entries s.0 n s.1 in
            let e = u.entries s.0 p s.2 in
            let same : d.1 ≡ e.1 = same_Some d.1 e.1 (sym d.3 ∙ e.3) in
            inr (
              d.0,
              e.0,
              d.2,
              e.2,
              sym d.4 ∙ (ap (λ (z : Entry Sh ℕ). z.shape) same ∙ e.4),
              placed_alike L M d.0.refs e.0.refs e.1.refs (subst (λ (z : Entry Sh ℕ). ArePlaces L d.0.refs z.refs) same d.5) e.5,
            );
        in_order = placed_alike L M R tops C r q;
      },
    )

-- both ways in one
pub match_exactly :
    {Sh N P : Type 0} (S : System Sh N) (R L : List N) (U : System Sh P) (tops M : List P)
    (T V : List (Entry Sh ℕ)) (C D : List ℕ)
    → IsNumbering S R L → IsNumbering U tops M → IsTable S L T → IsTable U M V → ArePlaces L R C
    → ArePlaces M tops D
    → ((T ≡ V) × (C ≡ D)) ↔ ((pairs : List (N × P)) × IsMatch S R U tops pairs)
match_exactly {Sh = Sh} S R L U tops M T V C D x y t v c d = (
  λ e.
      match_found S R L U tops M T C x y t
      (subst (λ (z : List (Entry Sh ℕ)). IsTable U M z) (sym e.0) v) c
      (subst (λ (z : List ℕ). ArePlaces M tops z) (sym e.1) d),
  λ m.
      let k = match_image S R U tops m.0 L m.1 x in
      let moved = match_numbering S R U tops m.0 L k.0 m.1 x k.1 in
      let same : k.0 ≡ M = one_numbering U tops k.0 M moved y in (
        one_table U M y.1.order.distinct T V
            (subst (λ (z : List _). IsTable U z T) same ((match_table S R U tops m.0 L k.0 m.1 x k.1 T).0 t)) v,
        one_place M y.1.order.distinct tops C D
            (subst (λ (z : List _). ArePlaces z tops C) same ((match_places S R U tops m.0 L k.0 m.1 x k.1 C).0 c)) d,
      ),
)
