-- Tables of lists of nodes.
use Rattle.std.proofs.Common.{Contains, List, Some, [], ap, ap₂, length, refl, slice_get}
use Rattle.std.proofs.Common.{slice_index, subst, suc, sym, zero, ℕ, ◌+◌, ◌<◌, ◌∙◌, ◌∷◌, ◌≡◌}
use Rattle.std.proofs.lemmas.Option.{same_Some, slice_get_within}
use Rattle.scale_info_numberings.proofs.Places.{begins_at, element_at, list_from, same_places}
use Rattle.scale_info_numberings.proofs.PlacesOf.{one_place, places_below, places_in_more}
use Rattle.scale_info_numberings.proofs.Walking.{places_of_walk}
use Rattle.scale_info_numberings.specs.Extensions.{IsExtension}
use Rattle.scale_info_numberings.specs.Numberings.{AreDistinct, IsNumbering, IsNumberingWith}
use Rattle.scale_info_numberings.specs.Systems.{Entry, Grows, System}
use Rattle.scale_info_numberings.specs.Tables.{ArePlaces, IsTable, table_system}
use Rattle.scale_info_numberings.specs.Unfoldings.{Tree, node, tree, tree_of, trees, unfold_to}

same_entry : {Sh N : Type 0} (d e : Entry Sh N) → d.shape ≡ e.shape → d.refs ≡ e.refs → d ≡ e
same_entry d e s r = λ i. record { shape = s i; refs = r i }

-- the entry of a table at a place
pub entry_at :
    {Sh N : Type 0} (S : System Sh N) (L : List N) (T : List (Entry Sh ℕ))
    → IsTable S L T → (i : ℕ) (n : N) (d : Entry Sh N) (t : Entry Sh ℕ) → slice_get L i ≡ Some n
    → S n ≡ Some d → slice_get T i ≡ Some t → (t.shape ≡ d.shape) × ArePlaces L d.refs t.refs
entry_at S L T x i n d t at known here =
    let e = x.entries i n at in
    let same : e.0 ≡ d = same_Some e.0 d (sym e.2 ∙ known) in
    let same' : e.1 ≡ t = same_Some e.1 t (sym e.3 ∙ here) in (
      subst (λ (z : Entry _ _). t.shape ≡ z.shape) same (subst (λ (z : Entry _ ℕ). z.shape ≡ e.0.shape) same' e.4),
      subst (λ (z : Entry _ _). ArePlaces L z.refs t.refs) same (subst (λ (z : Entry _ ℕ). ArePlaces L e.0.refs z.refs) same' e.5),
    )

-- distinct nodes have one table
pub one_table :
    {Sh N : Type 0} (S : System Sh N) (L : List N)
    → AreDistinct L → (T U : List (Entry Sh ℕ)) → IsTable S L T → IsTable S L U → T ≡ U
one_table S L distinct T U x y =
    same_places T U (x.long ∙ sym y.long)
    (λ i t e.
    let n = element_at L i (subst (λ z. i < z) x.long (slice_get_within T i t e)) in
    let u = y.entries i n.0 n.1 in
    let p = entry_at S L T x i n.0 u.0 t n.1 u.2 e in
    let same : u.1 ≡ t =
    same_entry u.1 t (u.4 ∙ sym p.0) (one_place L distinct u.0.refs u.1.refs t.refs u.5 p.1) in
    u.3 ∙ ap Some same)

module _ {Sh N : Type 0} (S : System Sh N) (R L : List N) (E : List ℕ)
    (x : IsNumberingWith S R L E) where
  IsEntry : ℕ → Entry Sh ℕ → Type 0
  IsEntry i t =
      (n : N) → slice_get L i ≡ Some n → (d : Entry Sh N) × (S n ≡ Some d) × (t.shape ≡ d.shape)
      × ArePlaces L d.refs t.refs

  entry_of : (i : ℕ) → i < length L → (t : Entry Sh ℕ) × IsEntry i t
  unfolding IsEntry
  entry_of i h =
      let n = element_at L i h in
      let d = x.nodes i n.0 n.1 in
      let ps = places_of_walk L (λ k. slice_index E k) d.0.refs (i + 1) (slice_index E i) d.2 in (
        record { shape = d.0.shape; refs = ps.0 },
        λ m e. (d.0, subst (λ z. S z ≡ Some d.0) (same_Some n.0 m (sym n.1 ∙ e)) d.1, refl, ps.1),
      )

  -- the table, made place by place
  pub table_of : (T : List (Entry Sh ℕ)) × IsTable S L T
  unfolding IsEntry
  table_of =
      let made = list_from (length L) IsEntry entry_of in (
        made.0,
        record {
          long = made.1;
          entries = λ i n e.
              let t =
              element_at made.0 i (subst (λ z. i < z) (sym made.1) (slice_get_within L i n e)) in
              let d = made.2 i t.0 t.1 n e in
              (d.0, t.0, d.1, t.1, d.2, d.3);
        },
      )

-- a numbering has a table
pub table_exists :
    {Sh N : Type 0} (S : System Sh N) (R L : List N)
    → IsNumbering S R L → (T : List (Entry Sh ℕ)) × IsTable S L T
table_exists S R L x = table_of S R L x.0 x.1

-- the roots of a numbering have places
pub root_places :
    {Sh N : Type 0} (S : System Sh N) (R L : List N)
    → IsNumbering S R L → (places : List ℕ) × ArePlaces L R places
root_places S R L x = places_of_walk L (λ k. slice_index x.0 k) R 0 (length L) x.1.from_roots

same_trees :
    {Sh N : Type 0} (L : List N) (f : N → Tree Sh) (g : ℕ → Tree Sh)
    → ((i : ℕ) (n : N) → slice_get L i ≡ Some n → f n ≡ g i)
    → (ns : List N) (ps : List ℕ) → ArePlaces L ns ps → trees f ns ≡ trees g ps
same_trees L f g h [] [] z = refl
same_trees L f g h [] (p ∷ ps) z = absurd z
same_trees L f g h (n ∷ ns) [] z = absurd z
same_trees L f g h (n ∷ ns) (p ∷ ps) z = ap₂ tree (h p n z.0) (same_trees L f g h ns ps z.1)

-- a node and its place unfold alike, by induction on the depth
pub unfolds_alike :
    {Sh N : Type 0} (S : System Sh N) (L : List N) (T : List (Entry Sh ℕ)) → IsTable S L T
    → (depth i : ℕ) (n : N) → slice_get L i ≡ Some n
    → unfold_to depth S n ≡ unfold_to depth (table_system T) i
unfolds_alike S L T x zero i n e = refl
unfolds_alike S L T x (suc depth) i n e =
    let y = x.entries i n e in
    let f = λ (r : _). unfold_to depth S r in
    let g = λ (r : ℕ). unfold_to depth (table_system T) r in
    ap (λ o. tree_of f o) y.2
    ∙ (ap₂ node (sym y.4) (same_trees L f g (λ j m h. unfolds_alike S L T x depth j m h) y.0.refs y.1.refs y.5) ∙ sym (ap (λ o. tree_of g o) y.3))

-- the old entries of the table of an extension are those of the old table
pub old_entries_stay :
    {Sh N : Type 0} (S U : System Sh N) (L roots M : List N) (T V : List (Entry Sh ℕ))
    → Grows S U
    → IsExtension U L roots M
    → IsTable S L T
    → IsTable U M V → (i : ℕ) (t : Entry Sh ℕ) → slice_get T i ≡ Some t → slice_get V i ≡ Some t
old_entries_stay S U L roots M T V g x y z i t e =
    let n = element_at L i (subst (λ k. i < k) y.long (slice_get_within T i t e)) in
    let d = y.entries i n.0 n.1 in
    let p = entry_at S L T y i n.0 d.0 t n.1 d.2 e in
    let v = z.entries i n.0 (begins_at L M x.1.begins i n.0 n.1) in
    let q =
    entry_at U M V z i n.0 d.0 v.1 (begins_at L M x.1.begins i n.0 n.1) (g n.0 d.0 d.2) v.3 in
    let same : v.1 ≡ t =
    same_entry v.1 t (q.0 ∙ sym p.0)
    (one_place M x.1.distinct d.0.refs v.1.refs t.refs q.1 (places_in_more L M (begins_at L M x.1.begins) d.0.refs t.refs p.1)) in
    v.3 ∙ ap Some same

-- each reference of the table is one of its places
pub closed :
    {Sh N : Type 0} (S : System Sh N) (L : List N) (T : List (Entry Sh ℕ))
    → IsTable S L T
    → (i : ℕ) (t : Entry Sh ℕ)
    → slice_get T i ≡ Some t
    → (p : ℕ) → Contains t.refs p → p < length T
closed S L T x i t e p c =
    let n = element_at L i (subst (λ k. i < k) x.long (slice_get_within T i t e)) in
    let d = x.entries i n.0 n.1 in
    let q = entry_at S L T x i n.0 d.0 t n.1 d.2 e in
    subst (λ k. p < k) (sym x.long) (places_below L d.0.refs t.refs q.1 p c)
