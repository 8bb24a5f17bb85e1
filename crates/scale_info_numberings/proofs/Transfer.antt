-- A numbering of one system, carried place by place to another.
use Rattle.std.proofs.Common.{List, Some, arith, length, slice_get, slice_index, subst, sym, ℕ, ◌+◌}
use Rattle.std.proofs.Common.{◌<◌, ◌∙◌, ◌≡◌}
use Rattle.std.proofs.lemmas.Option.{slice_get_within}
use Rattle.std.specs.List.{AllZip}
use Rattle.scale_info_numberings.proofs.Places.{element_at}
use Rattle.scale_info_numberings.proofs.Zip.{zip_joined}
use Rattle.scale_info_numberings.proofs.Walking.{SamePlace, carry_walk}
use Rattle.scale_info_numberings.specs.Numberings.{AreDistinct, IsNumbering, Walks}
use Rattle.scale_info_numberings.specs.Systems.{Entry, System}
use Rattle.scale_info_numberings.specs.Tables.{ArePlaces, IsTable}

-- M has at each place what U says is alike to what S says of L there
pub record Carries {Sh N P : Type 0} (S : System Sh N) (L : List N) (U : System Sh P)
    (M : List P) : Type 0 where
  pub long : length L ≡ length M
  pub from_distinct : AreDistinct L
  pub distinct : AreDistinct M
  pub alike :
      (i : ℕ) (n : N) (p : P) (d : Entry Sh N)
      → slice_get L i ≡ Some n
      → slice_get M i ≡ Some p
      → S n ≡ Some d
      → (e : Entry Sh P) × (U p ≡ Some e) × (d.shape ≡ e.shape)
      × AllZip (λ r q. SamePlace L M r q) d.refs e.refs

module _ {Sh N P : Type 0} (S : System Sh N) (L : List N) (U : System Sh P) (M : List P)
    (x : Carries S L U M) where
  partner : (i : ℕ) (p : P) → slice_get M i ≡ Some p → (n : N) × (slice_get L i ≡ Some n)
  partner i p e = element_at L i (subst (λ z. i < z) (sym x.long) (slice_get_within M i p e))

  -- L is numbered, so M is, with the same ends
  pub carry_numbering :
      (R : List N) (tops : List P)
      → AllZip (λ r q. SamePlace L M r q) R tops → IsNumbering S R L → IsNumbering U tops M
  carry_numbering R tops z y =
      let E = y.0 in
      let ends = λ (k : ℕ). slice_index E k in
      let o = y.1.order in
      let long = x.long in (
        E,
        record {
          order = record {
            distinct = x.distinct;
            long = o.long ∙ long;
            above = λ i h. o.above i (omega arith);
            within = λ i h. let le = o.within i (omega arith) in omega arith;
          };
          from_roots =
              subst (λ c. Walks M ends tops 0 c) long
              (carry_walk L M ends x.from_distinct R tops 0 (length L) z y.1.from_roots);
          nodes = λ i p e.
              let n = partner i p e in
              let d = y.1.nodes i n.0 n.1 in
              let a = x.alike i n.0 p d.0 n.1 e d.1 in
              (a.0, a.1, carry_walk L M ends x.from_distinct d.0.refs a.0.refs (i + 1) (ends i) a.3 d.2);
        },
      )

  -- nodes at the same places of L and M have the same lists of places
  pub carry_places :
      (ns : List N) (ps : List P) (is : List ℕ)
      → AllZip (λ r q. SamePlace L M r q) ns ps → ArePlaces L ns is → ArePlaces M ps is
  carry_places ns ps is z y =
      zip_joined (λ r q. SamePlace L M r q) (λ r i. slice_get L i ≡ Some r)
      (λ q i. slice_get M i ≡ Some q)
      (λ r q i s e. subst (λ j. slice_get M j ≡ Some q) (x.from_distinct s.0 i r s.1 e) s.2) ns ps is z y

  -- the table of L is the table of M
  pub carry_table : (T : List (Entry Sh ℕ)) → IsTable S L T → IsTable U M T
  carry_table T y =
      record {
        long = y.long ∙ x.long;
        entries = λ i p e.
            let n = partner i p e in
            let d = y.entries i n.0 n.1 in
            let a = x.alike i n.0 p d.0 n.1 e d.2 in
            (a.0, d.1, a.1, d.3, d.4 ∙ a.2, carry_places d.0.refs a.0.refs d.1.refs a.3 d.5);
      }
