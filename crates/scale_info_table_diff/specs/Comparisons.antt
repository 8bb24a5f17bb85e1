-- Steps of a comparison of two tables.
use Rattle.std.specs.Prelude.{◌≡◌, ◌≢◌, ◌++◌, ℕ, List, [], ◌∷◌, Bool, true, false, All, Contains}
use Rattle.std.specs.Prelude.{length}
use Rattle.std.specs.List.{AllZip, flat_map}
use Rattle.scale_info_types.specs.Portable.{Text}
use Rattle.scale_info_types.specs.declared.ty.PortableType.{PortableType}
use Rattle.scale_info_table_diff.specs.TableChanges.{AreSame, IsOldChange}
use Rattle.scale_info_table_diff.specs.TypesByPath.{ids_of}
use Rattle.scale_info_table_diff.specs.declared.change.Change.{Change}
use Rattle.scale_info_table_diff.specs.declared.change.Change.TheVariants.{Removed}

-- what became of these paths was added at the end
pub record AddsOldChanges (types others : List PortableType) (paths : List Text)
    (old new : List Change) : Type 0 where
  pub parts : List (List Change)
  pub each : AllZip (IsOldChange types others) paths parts
  pub added : new ≡ old ++ flat_map (λ part. part) parts

-- the ids in the old table of a path that has these in the new one: none, where that has none
abbrev pub own_ids : List ℕ → List ℕ → List ℕ
own_ids [] ids = []
own_ids (other ∷ others) ids = ids

-- a path has, in the old table, as many types as in the new one, if it has any there
abbrev pub HasSameCount : List PortableType → List PortableType → Text → Type 0
HasSameCount types others path =
    length (own_ids (ids_of path others) (ids_of path types)) ≡ length (ids_of path others)

-- the ids in the old table of the paths that the new one has, path by path, and those in the new
-- one, where each has as many there
pub record AreCommonIds (types others : List PortableType) (paths : List Text)
    (ids other_ids : List ℕ) : Type 0 where
  pub counts : All (HasSameCount types others) paths
  pub own : ids ≡ flat_map (λ path. own_ids (ids_of path others) (ids_of path types)) paths
  pub theirs : other_ids ≡ flat_map (λ path. ids_of path others) paths

-- one of the paths has another number of types in the new table
pub record HaveOtherCounts (types others : List PortableType) (paths : List Text) : Type 0 where
  pub path : Text
  pub one : Contains paths path
  pub other : ¬ (HasSameCount types others path)

-- where it is true, no path that the new table has has changed; where it is false of one path that
-- the new table has, that has changed
pub record TellsSame (types others : List PortableType) (paths : List Text)
    (same : Bool) : Type 0 where
  pub all :
      same ≡ true
      → All (λ path. ids_of path others ≢ [] → AreSame types others path) paths
  pub one :
      same ≡ false
      → (path : Text) → paths ≡ path ∷ [] → ids_of path others ≢ [] → ¬ (AreSame types others path)

-- what became of a path, by the ids of the types with it in the new table, if none has changed: it
-- is removed, where there is none
abbrev pub removed_by : List ℕ → Text → List Change
removed_by [] path = Removed path ∷ []
removed_by (id ∷ ids) path = []
