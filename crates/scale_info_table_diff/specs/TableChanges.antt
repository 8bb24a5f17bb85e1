-- What changed between two tables.
use Rattle.std.specs.Prelude.{◌≡◌, ◌≢◌, ◌≤◌, ◌++◌, ◌⊎◌, ℕ, List, [], ◌∷◌, Contains, Some}
use Rattle.std.specs.Prelude.{length, slice_get}
use Rattle.std.specs.List.{AllZip, flat_map}
use Rattle.scale_info_table_prune.specs.SameTypes.{HaveMatch}
use Rattle.scale_info_table_prune.specs.declared.prune.PruneError.{PruneError}
use Rattle.scale_info_table_prune.specs.declared.prune.PruneError.TheVariants.{Malformed, Trailing}
use Rattle.scale_info_table_prune.specs.declared.prune.PruneError.TheVariants.{NoSuchType, Dangling}
use Rattle.scale_info_table_prune.specs.declared.prune.PruneError.TheVariants.{Memory}
use Rattle.scale_info_references.specs.Conversions.{ids_in}
use Rattle.scale_info_types.specs.Portable.{Text}
use Rattle.scale_info_types.specs.declared.ty.PortableType.{PortableType}
use Rattle.scale_info_table_diff.specs.TypesByPath.{ids_of, paths_of}
use Rattle.scale_info_table_diff.specs.declared.change.Change.{Change}
use Rattle.scale_info_table_diff.specs.declared.change.Change.TheVariants.{Removed, Added, Changed}

-- the types with this path are the same in both tables: a match takes what they reach in the one,
-- one to one and in order, to what they reach in the other
abbrev pub AreSame : List PortableType → List PortableType → Text → Type 0
AreSame types others path = HaveMatch types (ids_of path types) others (ids_of path others)

-- what became of a path of the old types, where the others are new: it is removed, where no new
-- type has it; changed, where new types have it and are not the same; and there is no change, where
-- they are the same
pub data IsOldChange (types others : List PortableType) : Text → List Change → Type 0 where
  removed :
      (path : Text) → ids_of path others ≡ []
      → IsOldChange types others path (Removed path ∷ [])
  changed :
      (path : Text) → ids_of path others ≢ [] → ¬ (AreSame types others path)
      → IsOldChange types others path (Changed path ∷ [])
  unchanged :
      (path : Text) → ids_of path others ≢ [] → AreSame types others path
      → IsOldChange types others path []

-- what became of a path, by the ids of the types with it in the other table: it is added, where
-- there is none
abbrev pub added_by : List ℕ → Text → List Change
added_by [] path = Added path ∷ []
added_by (id ∷ ids) path = []

-- what was added of a path of new types
abbrev pub new_change : List PortableType → Text → List Change
new_change types path = added_by (ids_of path types) path

-- what became of the paths of the old types, path by path, and then what was added of the paths of
-- the others, which are new
pub record AreChanges (types others : List PortableType) (changes : List Change) : Type 0 where
  pub of_old : List (List Change)
  pub each : AllZip (IsOldChange types others) (paths_of types) of_old
  pub listed :
      changes ≡ flat_map (λ part. part) of_old ++ flat_map (new_change types) (paths_of others)

-- an entry refers to this id, which is no index
pub record IsDangling (types : List PortableType) (id : ℕ) : Type 0 where
  pub index : ℕ
  pub entry : PortableType
  pub found : slice_get types index ≡ Some entry
  pub refers : Contains (ids_in entry.ty) id
  pub outside : length types ≤ id

-- why the types of two tables are not compared: an entry of one of them refers to an id that is no
-- index; or an allocation failed
abbrev pub IsCompareError : List PortableType → List PortableType → PruneError → Type 0
IsCompareError types others Malformed = ⊥
IsCompareError types others Trailing = ⊥
IsCompareError types others (NoSuchType id) = ⊥
IsCompareError types others (Dangling id) = IsDangling types id ⊎ IsDangling others id
IsCompareError types others Memory = Unit {0}
