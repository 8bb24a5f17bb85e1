-- Paths: what is reached, as a list of names that a reader can follow.
use Rattle.std.specs.Prelude.{◌≡◌, ℕ, ◌+◌, List, [], ◌∷◌, ◌++◌, Some, All, Contains, slice_get}
use Rattle.scale_info_numberings.specs.Systems.{Entry, System}

-- The names lead from a root to n: the first is a root, the last is n, and each name that has a
-- next one is a node of S that refers to the next. So each name but the last is in S, and the last
-- may lie outside.
pub record IsPath {Sh N : Type 0} (S : System Sh N) (roots names : List N) (n : N) : Type 0 where
  pub begins : (r : N) × Contains roots r × (slice_get names 0 ≡ Some r)
  pub ends : (front : List N) × (names ≡ front ++ n ∷ [])
  pub steps :
      (i : ℕ) (a b : N) → slice_get names i ≡ Some a → slice_get names (i + 1) ≡ Some b
      → (d : Entry Sh N) × (S a ≡ Some d) × Contains d.refs b

-- a path on which no name is known
pub record IsPathPast {Sh N : Type 0} (S : System Sh N) (known roots names : List N)
    (n : N) : Type 0 where
  pub path : IsPath S roots names n
  pub unknown : All (λ name. ¬ (Contains known name)) names
