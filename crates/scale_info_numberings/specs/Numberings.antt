-- Depth-first numberings, as a check of two finished lists: L, the nodes in the order of their
-- discovery (preorder), and E, which gives for each place of L the place just past all that was
-- discovered from there (the finishing mark). Each definition only reads them; none knows a visited
-- set, a counter or a stack.
use Rattle.std.specs.Prelude.{◌≡◌, ℕ, ◌+◌, ◌<◌, ◌≤◌, List, [], ◌∷◌, length, Some, slice_get}
use Rattle.std.specs.Prelude.{slice_index, ◌⊎◌}
use Rattle.scale_info_numberings.specs.Systems.{Entry, System}

-- no element stands at two places
abbrev pub AreDistinct : {N : Type 0} → List N → Type 0
AreDistinct {N} L = (i j : ℕ) (n : N) → slice_get L i ≡ Some n → slice_get L j ≡ Some n → i ≡ j

-- L has no node twice, and E has for each place of L an end, which is above the place and within L
pub record IsOrder {N : Type 0} (L : List N) (E : List ℕ) : Type 0 where
  pub distinct : AreDistinct L
  pub long : length E ≡ length L
  pub above : (i : ℕ) → i < length L → i < slice_index E i
  pub within : (i : ℕ) → i < length L → slice_index E i ≤ length L

-- The mark says how many places are taken so far. A look at the reference r moves it from `here` to
-- `there`: either r stands at a place below the mark, and the mark stays; or r is the node at the
-- mark, discovered now, and the mark moves to that place's end. Nothing else is a step.
abbrev pub IsStep : {N : Type 0} → List N → (ℕ → ℕ) → N → ℕ → ℕ → Type 0
IsStep L ends r here there =
    ((i : ℕ) × (i < here) × (slice_get L i ≡ Some r) × (there ≡ here))
    ⊎ ((slice_get L here ≡ Some r) × (there ≡ ends here))

-- a list of references, looked at one after another, takes the mark from `here` to `there`
abbrev pub Walks : {N : Type 0} → List N → (ℕ → ℕ) → List N → ℕ → ℕ → Type 0
Walks L ends [] here there = here ≡ there
Walks L ends (r ∷ rs) here there =
    (mark : ℕ) × IsStep L ends r here mark × Walks L ends rs mark there

-- L numbers S from the roots, with the ends E: the roots walk from 0 to the end of L, and at each
-- place i stands a node of S whose references walk from the place after i to the end of i
pub record IsNumberingWith {Sh N : Type 0} (S : System Sh N) (roots L : List N)
    (E : List ℕ) : Type 0 where
  pub order : IsOrder L E
  pub from_roots : Walks L (λ i. slice_index E i) roots 0 (length L)
  pub nodes :
      (i : ℕ) (n : N) → slice_get L i ≡ Some n
      → (d : Entry Sh N) × (S n ≡ Some d)
      × Walks L (λ k. slice_index E k) d.refs (i + 1) (slice_index E i)

-- the place of a node in L is its number: L is a numbering if there are ends with which it is one
abbrev pub IsNumbering : {Sh N : Type 0} → System Sh N → List N → List N → Type 0
IsNumbering S roots L = (E : List ℕ) × IsNumberingWith S roots L E
