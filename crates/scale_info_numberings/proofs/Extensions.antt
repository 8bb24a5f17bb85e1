-- Numberings and extensions: there is one, and they join.
use Rattle.std.proofs.Common.{List, [], arith, length, map, refl, slice_get, slice_index, subst}
use Rattle.std.proofs.Common.{sym, zero-le, ℕ, ◌++◌, ◌+◌, ◌<◌, ◌∙◌, ◌≡◌, ◌≤◌}
use Rattle.std.proofs.lemmas.List.FromFn.{get_or-map-range_with_len, length-map-range_with_len}
use Rattle.std.proofs.lemmas.Option.{slice_get_within}
use Rattle.std.specs.List.{range_with_len}
use Rattle.scale_info_numberings.proofs.Places.{at_left, element_at, same_places}
use Rattle.scale_info_numberings.proofs.Tours.{AgreeBelow, same_tours, tour_of}
use Rattle.scale_info_numberings.proofs.Walking.{EndsFrom, RisesFrom, move_walk}
use Rattle.scale_info_numberings.specs.Extensions.{IsExtension, IsExtensionWith}
use Rattle.scale_info_numberings.specs.Numberings.{IsNumbering, Walks}
use Rattle.scale_info_numberings.specs.Systems.{Grows, System}

-- a numbering is an extension of nothing
pub extension_of_numbering :
    {Sh N : Type 0} (S : System Sh N) (R L : List N)
    → IsNumbering S R L → IsExtension S [] R L
extension_of_numbering S R L x =
    let E = x.0 in
    let y = x.1 in (
      λ i. slice_index E i,
      record {
        begins = (L, refl);
        distinct = y.order.distinct;
        above = λ i b h. y.order.above i h;
        within = λ i b h. y.order.within i h;
        from_roots = y.from_roots;
        nodes = λ i n b e. y.nodes i n e;
      },
    )

module _ (ends : ℕ → ℕ) where
  listed_ends : ℕ → List ℕ
  listed_ends n = map ends (range_with_len 0 n)

  listed_end : (n i : ℕ) → i < n → ends i ≡ slice_index (listed_ends n) i
  unfolding listed_ends
  listed_end n i h = sym (get_or-map-range_with_len ends 0 n i i 0 h (omega arith))

  length_listed : (n : ℕ) → length (listed_ends n) ≡ n
  unfolding listed_ends
  length_listed n = length-map-range_with_len ends 0 n

-- an extension of nothing is a numbering: its ends are written into a list
pub numbering_of_extension :
    {Sh N : Type 0} (S : System Sh N) (R L : List N)
    → IsExtension S [] R L → IsNumbering S R L
numbering_of_extension {Sh} {N} S R L x =
    let ends = x.0 in
    let y = x.1 in
    let E = listed_ends ends (length L) in
    let same : (i : ℕ) → i < length L → ends i ≡ slice_index E i =
    λ i h. listed_end ends (length L) i h in
    let rises : RisesFrom L ends 0 = y.above in
    let move : (rs : List N) (a c : ℕ) → Walks L ends rs a c → Walks L (λ i. slice_index E i) rs a c =
    λ rs a c w.
    move_walk L ends 0 rises L (λ i. slice_index E i) (λ i n e. e) (λ i b h. same i h) rs a c zero-le w in (
      E,
      record {
        order = record {
          distinct = y.distinct;
          long = length_listed ends (length L);
          above = λ i h. subst (λ z. i < z) (same i h) (y.above i zero-le h);
          within = λ i h. subst (λ z. z ≤ length L) (same i h) (y.within i zero-le h);
        };
        from_roots = move R 0 (length L) y.from_roots;
        nodes = λ i n e.
            let d = y.nodes i n zero-le e in
            (d.0, d.1, subst (λ z. Walks L (λ k. slice_index E k) d.0.refs (i + 1) z) (same i (slice_get_within L i n e)) (move d.0.refs (i + 1) (ends i) d.2));
      },
    )

-- there is one extension
pub one_extension :
    {Sh N : Type 0} (S : System Sh N) (K R L M : List N)
    → IsExtension S K R L → IsExtension S K R M → L ≡ M
one_extension S K R L M x y =
    let agree : AgreeBelow L M (length K) =
    λ i h.
    let k = element_at K i h in
    subst (λ (zs : List _). slice_get zs i ≡ slice_get M i) x.1.begins.1
    (subst (λ (zs : List _). slice_get (K ++ x.1.begins.0) i ≡ slice_get zs i) y.1.begins.1
    (at_left K x.1.begins.0 i k.0 k.1 ∙ sym (at_left K y.1.begins.0 i k.0 k.1))) in
    let t =
    same_tours S L M x.1.distinct y.1.distinct (tour_of S K R L x.0 x.1) (length M)
    (tour_of S K R M y.0 y.1) agree in
    same_places L M t.0 (λ i n e. sym (t.1 i (slice_get_within L i n e)) ∙ e)

-- there is one numbering
pub one_numbering :
    {Sh N : Type 0} (S : System Sh N) (R L M : List N)
    → IsNumbering S R L → IsNumbering S R M → L ≡ M
one_numbering S R L M x y =
    one_extension S [] R L M (extension_of_numbering S R L x) (extension_of_numbering S R M y)

-- an extension, by other roots or in another system, with the same ends
pub extension_as :
    {Sh N : Type 0} {S T : System Sh N} {K R Q L : List N} {ends : ℕ → ℕ}
    → IsExtensionWith S K R L ends → Walks L ends Q (length K) (length L)
    → EndsFrom T L ends (length K) → IsExtensionWith T K Q L ends
extension_as x from_roots nodes = record {
  begins = x.begins;
  distinct = x.distinct;
  above = x.above;
  within = x.within;
  from_roots = from_roots;
  nodes = nodes;
}

-- an extension stays one in a system that has grown
pub extension_grows :
    {Sh N : Type 0} (S T : System Sh N) (K R L : List N)
    → Grows S T → IsExtension S K R L → IsExtension T K R L
extension_grows S T K R L g x = (
  x.0,
  extension_as x.1 x.1.from_roots
      (λ i n b e. let d = x.1.nodes i n b e in (d.0, g n d.0 d.1, d.2)),
)

-- a numbering stays one in a system that has grown
pub numbering_grows :
    {Sh N : Type 0} (S T : System Sh N) (R L : List N)
    → Grows S T → IsNumbering S R L → IsNumbering T R L
numbering_grows S T R L g x = (
  x.0,
  record {
    order = x.1.order;
    from_roots = x.1.from_roots;
    nodes = λ i n e. let d = x.1.nodes i n e in (d.0, g n d.0 d.1, d.2);
  },
)
