-- Reference systems, which are directed graphs: what stands at each node, and what is reached from
-- a list of roots.
use Rattle.std.specs.Prelude.{◌≡◌, ℕ, List, [], ◌∷◌, ◌++◌, Option, Some, None, Contains, length}
use Rattle.std.specs.Prelude.{sum_by}

-- what stands at a node: its shape, which is all but the references, and its references in order
pub record Entry (Sh N : Type 0) : Type 0 where
  pub shape : Sh
  pub refs : List N

-- A map from nodes to entries, as a function: a name that it takes to `None` lies outside the
-- system. A reference may lead outside. The systems meant are finite, as a map or a table is; no
-- law needs that, so nothing here demands it.
abbrev pub System : Type 0 → Type 0 → Type 0
System Sh N = N → Option (Entry Sh N)

-- T has each node of S, with the entry that S gives it, and perhaps more nodes
abbrev pub Grows : {Sh N : Type 0} → System Sh N → System Sh N → Type 0
Grows {Sh} {N} S T = (n : N) (d : Entry Sh N) → S n ≡ Some d → T n ≡ Some d

-- n is reached from the roots along references of S, and no name on the way, from the root to n
-- itself, is known
pub data IsReachedPast {Sh N : Type 0} (S : System Sh N) (known roots : List N) : N → Type 0 where
  root : (n : N) → Contains roots n → ¬ (Contains known n) → IsReachedPast S known roots n
  next :
      (m n : N) (d : Entry Sh N) → IsReachedPast S known roots m → S m ≡ Some d → Contains d.refs n
      → ¬ (Contains known n) → IsReachedPast S known roots n

-- n is reached from the roots along references of S; n itself may lie outside S
abbrev pub IsReached : {Sh N : Type 0} → System Sh N → List N → N → Type 0
IsReached S roots n = IsReachedPast S [] roots n

-- n is the first name outside S that is met from the roots, depth first, where some names are
-- known. The roots are met in turn: one that is known is passed over; and a node of S becomes
-- known, and its references are met before the roots that are left.
pub data IsFirstOutside {Sh N : Type 0} (S : System Sh N) : List N → List N → N → Type 0 where
  here :
      (known roots : List N) (n : N) → ¬ (Contains known n) → S n ≡ None
      → IsFirstOutside S known (n ∷ roots) n
  after_known :
      (known roots : List N) (m n : N) → Contains known m → IsFirstOutside S known roots n
      → IsFirstOutside S known (m ∷ roots) n
  after_node :
      (known roots : List N) (m n : N) (d : Entry Sh N) → ¬ (Contains known m) → S m ≡ Some d
      → IsFirstOutside S (known ++ m ∷ []) (d.refs ++ roots) n
      → IsFirstOutside S known (m ∷ roots) n

-- the references of an entry, if there is one
abbrev pub refs_in : {Sh N : Type 0} → Option (Entry Sh N) → List N
refs_in None = []
refs_in (Some d) = d.refs

-- The sum of the numbers of references of the nodes of L: how often a walk looks at a reference, if
-- it looks once at each reference of each of them. The roots are not counted.
abbrev pub looks : {Sh N : Type 0} → System Sh N → List N → ℕ
looks S L = sum_by (λ n. length (refs_in (S n))) L
