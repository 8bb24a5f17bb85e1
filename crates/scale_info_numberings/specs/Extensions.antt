-- Extensions: a numbered list goes on by more roots, and what it has stays as it is.
use Rattle.std.specs.Prelude.{◌≡◌, ℕ, ◌+◌, ◌<◌, ◌≤◌, List, [], ◌∷◌, ◌++◌, length, Some, slice_get}
use Rattle.std.specs.Prelude.{◌⊎◌, Contains}
use Rattle.scale_info_numberings.specs.Systems.{Entry, System}
use Rattle.scale_info_numberings.specs.Numberings.{AreDistinct, Walks}

-- M extends L by the roots under S, with these ends: M begins with L and has no node twice, each
-- new place has its end above it and within M, the roots walk from the end of L to the end of M,
-- and at each new place i stands a node of S whose references walk from the place after i to the
-- end of i. Of the ends only those of the new places count.
pub record IsExtensionWith {Sh N : Type 0} (S : System Sh N) (L roots M : List N)
    (ends : ℕ → ℕ) : Type 0 where
  pub begins : (new : List N) × (L ++ new ≡ M)
  pub distinct : AreDistinct M
  pub above : (i : ℕ) → length L ≤ i → i < length M → i < ends i
  pub within : (i : ℕ) → length L ≤ i → i < length M → ends i ≤ length M
  pub from_roots : Walks M ends roots (length L) (length M)
  pub nodes :
      (i : ℕ) (n : N) → length L ≤ i → slice_get M i ≡ Some n
      → (d : Entry Sh N) × (S n ≡ Some d) × Walks M ends d.refs (i + 1) (ends i)

-- M extends L by the roots if there are ends with which it does
abbrev pub IsExtension : {Sh N : Type 0} → System Sh N → List N → List N → List N → Type 0
IsExtension S L roots M = (ends : ℕ → ℕ) × IsExtensionWith S L roots M ends

-- what it takes to extend L by n and then the roots: either n stands in L, and the roots extend L;
-- or n is a node of S that does not stand in L, and L followed by n is extended by the references
-- of n and then the roots
abbrev pub IsExtensionByOne : {Sh N : Type 0} → System Sh N → List N → N → List N → List N → Type 0
IsExtensionByOne {Sh} {N} S L n roots M =
    (Contains L n × IsExtension S L roots M)
    ⊎ ((d : Entry Sh N) × (S n ≡ Some d) × ¬ (Contains L n)
    × IsExtension S (L ++ n ∷ []) (d.refs ++ roots) M)
