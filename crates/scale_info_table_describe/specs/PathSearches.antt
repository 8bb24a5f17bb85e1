-- Types found by their paths.
use Rattle.std.specs.Prelude.{◌≡◌, ◌+◌, ◌++◌, ℕ, List, [], ◌∷◌, Bool, true, false, ◌&&◌, ◌||◌}
use Rattle.std.specs.Prelude.{take, length, ◌==◌, if◌then◌else◌}
use Rattle.std.specs.Str.{bytes_eq}
use Rattle.scale_info_table_describe.specs.declared.search.Search.{Search}
use Rattle.scale_info_table_describe.specs.declared.search.Search.TheVariants as search
use Rattle.scale_info_segments.specs.TypePaths.{IsPieces}
use Rattle.scale_info_types.specs.Portable.{Text}
use Rattle.scale_info_types.specs.declared.ty.PortableType.{PortableType}

-- the path begins with these segments, each compared whole
abbrev pub begins_with : List Text → List Text → Bool
begins_with [] path = true
begins_with (s ∷ ss) [] = false
begins_with (s ∷ ss) (t ∷ ts) = bytes_eq s t && begins_with ss ts

-- the path is these segments: it begins with them, and has no more
abbrev pub is_path : List Text → List Text → Bool
is_path segments path = begins_with segments path && (length segments == length path)

-- the segments stand in the path in a row
abbrev pub stands_in : List Text → List Text → Bool
stands_in pattern [] = begins_with pattern []
stands_in pattern (t ∷ ts) = begins_with pattern (t ∷ ts) || stands_in pattern ts

-- the path is some segments, these, and some others
pub record StandInARow (segments path : List Text) : Type 0 where
  pub front : List Text
  pub back : List Text
  pub parts : path ≡ front ++ (segments ++ back)

-- the indices, ascending, of the entries whose paths pass the test; the first one's index is given
abbrev pub indices_from : ℕ → (List Text → Bool) → List PortableType → List ℕ
indices_from index test [] = []
indices_from index test (e ∷ es) =
    if test e.ty.path.segments then index ∷ indices_from (index + 1) test es
    else indices_from (index + 1) test es

-- which paths a search finds
abbrev pub test_of : Search → List Text → List Text → Bool
test_of search.Whole segments path = is_path segments path
test_of search.InARow segments path = stands_in segments path

-- The ids, ascending, of the types whose paths pass the test, where the test is given the pieces of
-- the text around `::`. An id is below 4294967296.
pub record AreIdsBy (test : List Text → List Text → Bool) (types : List PortableType)
    (text : List ℕ) (ids : List ℕ) : Type 0 where
  pub pieces : List Text
  pub cut : IsPieces text pieces
  pub found : ids ≡ indices_from 0 (test pieces) (take 4294967296 types)
