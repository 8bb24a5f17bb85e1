-- The types of a table by their paths.
use Rattle.std.specs.Prelude.{◌≡◌, ◌++◌, ◌||◌, ◌⊎◌, ℕ, List, [], ◌∷◌, Bool, false, Some, not}
use Rattle.std.specs.Prelude.{Contains, slice_get, slice_set, if◌then◌else◌}
use Rattle.std.specs.List.{AllZip}
use Rattle.std.specs.Str.{bytes_eq}
use Rattle.scale_info_table_describe.specs.PathSearches.{indices_from}
use Rattle.scale_info_segments.specs.TypePaths.{joined}
use Rattle.scale_info_types.specs.Portable.{Text}
use Rattle.scale_info_types.specs.declared.ty.PortableType.{PortableType}

-- these segments, of which there is one at least, joined by `::` are this path
abbrev pub has_path : Text → List Text → Bool
has_path path [] = false
has_path path (s ∷ ss) = bytes_eq path (joined (s ∷ ss))

-- the ids, ascending, of the types with this path
abbrev pub ids_of : Text → List PortableType → List ℕ
ids_of path types = indices_from 0 (has_path path) types

-- one of the paths is this one
abbrev pub is_among : List Text → Text → Bool
is_among [] path = false
is_among (p ∷ ps) path = bytes_eq path p || is_among ps path

-- these segments are a path that is none of the known ones
abbrev pub is_new : List Text → List Text → Bool
is_new known [] = false
is_new known (s ∷ ss) = not (is_among known (joined (s ∷ ss)))

-- the paths of types, each once, in the order of the first types that have them, without the known
-- ones
abbrev pub new_paths : List Text → List PortableType → List Text
new_paths known [] = []
new_paths known (e ∷ es) =
    if is_new known e.ty.path.segments
    then joined e.ty.path.segments ∷ new_paths (known ++ joined e.ty.path.segments ∷ []) es
    else new_paths known es

-- the paths of types, each once, in the order of the first types that have them
abbrev pub paths_of : List PortableType → List Text
paths_of types = new_paths [] types

-- each row has the ids of the types with the path at the same place
abbrev pub AreIdsByPath : List PortableType → List Text → List (List ℕ) → Type 0
AreIdsByPath types paths rows = AllZip (λ path row. row ≡ ids_of path types) paths rows

-- the id was added to the row of this path: to the row that there was, or to a new one at the end
abbrev pub AddsId :
    Text → ℕ → List Text → List (List ℕ) → List Text → List (List ℕ) → Type 0
AddsId path id paths rows paths_after rows_after =
    ((k : ℕ) × (row : List ℕ) × (slice_get paths k ≡ Some path) × (slice_get rows k ≡ Some row)
    × (paths_after ≡ paths) × (rows_after ≡ slice_set rows k (row ++ id ∷ [])))
    ⊎ (¬ (Contains paths path) × (paths_after ≡ paths ++ path ∷ [])
    × (rows_after ≡ rows ++ (id ∷ []) ∷ []))
