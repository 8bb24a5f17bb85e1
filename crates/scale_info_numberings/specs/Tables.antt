-- Tables: systems whose nodes are their places.
use Rattle.std.specs.Prelude.{◌≡◌, ℕ, List, length, Some, slice_get}
use Rattle.std.specs.List.{AllZip, range_with_len}
use Rattle.scale_info_numberings.specs.Systems.{Entry, System}

-- a table read as a system: the entry of i is the one at place i, and what is no place lies
-- outside. The place of an entry is its id, so an entry has no field for that.
abbrev pub table_system : {Sh : Type 0} → List (Entry Sh ℕ) → System Sh ℕ
table_system T i = slice_get T i

-- all places of a table, in order
abbrev pub all_places : {Sh : Type 0} → List (Entry Sh ℕ) → List ℕ
all_places T = range_with_len 0 (length T)

-- the nodes stand in L at these places, one for one
abbrev pub ArePlaces : {N : Type 0} → List N → List N → List ℕ → Type 0
ArePlaces L nodes places = AllZip (λ n p. slice_get L p ≡ Some n) nodes places

-- T is the table of the nodes L of S: as long as L, and at each place with the shape of the node
-- there and, for each of its references, the place of that in L. It is a relation, since to compute
-- T one would have to search L for a node, and nodes need no test of equality; the law `one_table`
-- says that each numbering has one table and only one.
pub record IsTable {Sh N : Type 0} (S : System Sh N) (L : List N)
    (T : List (Entry Sh ℕ)) : Type 0 where
  pub long : length T ≡ length L
  pub entries :
      (i : ℕ) (n : N) → slice_get L i ≡ Some n
      → (d : Entry Sh N) × (t : Entry Sh ℕ)
      × (S n ≡ Some d) × (slice_get T i ≡ Some t)
      × (t.shape ≡ d.shape) × ArePlaces L d.refs t.refs
