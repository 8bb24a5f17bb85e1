-- Unfoldings: what is seen from a node down to a depth, as a tree.
use Rattle.std.specs.Prelude.{ℕ, zero, suc, List, [], ◌∷◌, Option, Some, None}
use Rattle.scale_info_numberings.specs.Systems.{Entry, System}

mutual
  -- `cut` where the depth ends, `missing` where a name lies outside the system, else a shape over
  -- the trees of the references
  pub data Tree (Sh : Type 0) : Type 0 where
    cut : Tree Sh
    missing : Tree Sh
    node : Sh → Trees Sh → Tree Sh

  pub data Trees (Sh : Type 0) : Type 0 where
    no_trees : Trees Sh
    tree : Tree Sh → Trees Sh → Trees Sh

-- the trees of several nodes
abbrev pub trees : {Sh N : Type 0} → (N → Tree Sh) → List N → Trees Sh
trees f [] = no_trees
trees f (n ∷ ns) = tree (f n) (trees f ns)

-- the tree of an entry over the trees of its references, if there is one
abbrev pub tree_of : {Sh N : Type 0} → (N → Tree Sh) → Option (Entry Sh N) → Tree Sh
tree_of f None = missing
tree_of f (Some d) = node d.shape (trees f d.refs)

-- n to a depth: a cut at depth 0, and else n's shape over its references, each to a depth one less
abbrev pub unfold_to : {Sh N : Type 0} → ℕ → System Sh N → N → Tree Sh
unfold_to zero S n = cut
unfold_to (suc depth) S n = tree_of (λ r. unfold_to depth S r) (S n)
