-- Types of two tables that no match takes to each other.
use Rattle.std.specs.Prelude.{◌≡◌, ◌≢◌, ◌++◌, ℕ, List, [], ◌∷◌, All, Bool, true, false, Some}
use Rattle.std.specs.Prelude.{slice_get}
use Rattle.std.specs.List.{AllZip}
use Rattle.scale_info_grammar.specs.Ty.{EncodesDescription}
use Rattle.scale_info_numberings.specs.Matches.{IsMatch, Pairs}
use Rattle.scale_info_references.specs.Conversions.{ids_in, symbol}
use Rattle.scale_info_types.specs.Portable.{Text}
use Rattle.scale_info_types.specs.Shapes.{map_description}
use Rattle.scale_info_types.specs.declared.ty.PortableType.{PortableType}
use Rattle.scale_info_walk.specs.TypeSystems.{types_system}
use Rattle.scale_info_table_diff.specs.Comparisons.{removed_by}
use Rattle.scale_info_table_diff.specs.TableChanges.{AreSame}
use Rattle.scale_info_table_diff.specs.TypesByPath.{ids_of}
use Rattle.scale_info_table_diff.specs.declared.change.Change.{Change}
use Rattle.scale_info_table_diff.specs.declared.change.Change.TheVariants.{Changed}

-- the new list begins with the old one
abbrev pub Grows : {A : Type 0} → (old new : List A) → Type 0
Grows {A} old new = (more : List A) × (new ≡ old ++ more)

-- no match of what is reached in the two tables pairs these types
abbrev pub AreNeverPaired : List PortableType → List PortableType → (id other_id : ℕ) → Type 0
AreNeverPaired types others id other_id =
    (roots tops : List ℕ) (pairs : List (ℕ × ℕ))
    → IsMatch (types_system types) roots (types_system others) tops pairs
    → ¬ (Pairs pairs id other_id)

-- no match takes what these ids reach to what the others do
abbrev pub HaveNoMatch : List PortableType → List PortableType → (ids other_ids : List ℕ) → Type 0
HaveNoMatch types others ids other_ids =
    (pairs : List (ℕ × ℕ))
    → ¬ (IsMatch (types_system types) ids (types_system others) other_ids pairs)

-- the pair with this number is of types that are never paired
abbrev pub IsDiffering :
    List PortableType → List PortableType → List (ℕ × ℕ) → (number : ℕ) → Type 0
IsDiffering types others pairs number =
    (pair : ℕ × ℕ) × (slice_get pairs number ≡ Some pair)
    × AreNeverPaired types others pair.0 pair.1

-- so is each pair with a mark
abbrev pub AreDiffering :
    List PortableType → List PortableType → List (ℕ × ℕ) → (marks : List Bool) → Type 0
AreDiffering types others pairs marks =
    (number : ℕ) → slice_get marks number ≡ Some true → IsDiffering types others pairs number

-- if the pair with the second number is of types that are never paired, so is that with the first
abbrev pub IsEdge : List PortableType → List PortableType → List (ℕ × ℕ) → (edge : ℕ × ℕ) → Type 0
IsEdge types others pairs edge =
    (pair child : ℕ × ℕ) × (slice_get pairs edge.0 ≡ Some pair)
    × (slice_get pairs edge.1 ≡ Some child)
    × (AreNeverPaired types others child.0 child.1 → AreNeverPaired types others pair.0 pair.1)

-- where all of these are edges, and each pair that has a mark before is of types that are never
-- paired, so is each that has one after
abbrev pub StayDiffering : List (ℕ × ℕ) → (before after : List Bool) → Type 0
StayDiffering edges before after =
    (types others : List PortableType) (pairs : List (ℕ × ℕ))
    → All (IsEdge types others pairs) edges
    → AreDiffering types others pairs before
    → AreDiffering types others pairs after

-- the type with this id refers to these ids
pub record HasReferences (types : List PortableType) (id : ℕ) (references : List ℕ) : Type 0 where
  pub entry : PortableType
  pub found : slice_get types id ≡ Some entry
  pub are_references : references ≡ ids_in entry.ty

-- so it does, and this is the encoding of its description with 0 in the place of each of them
pub record HasParts (types : List PortableType) (id : ℕ) (contents references : List ℕ)
    : Type 0 where
  pub refers : HasReferences types id references
  pub encodes :
      EncodesDescription (map_description (λ _. symbol 0) (λ text. text) refers.entry.ty) contents

-- the new table has the path, and its types are not the same
pub record HasChanged (types others : List PortableType) (path : Text) : Type 0 where
  pub some : ids_of path others ≢ []
  pub differs : ¬ (AreSame types others path)

-- so it is with each path that has a mark
abbrev pub AreMarks :
    List PortableType → List PortableType → List Text → (marks : List Bool) → Type 0
AreMarks types others paths marks =
    AllZip (λ path mark. mark ≡ true → HasChanged types others path) paths marks

-- the paths that have no mark
abbrev pub unmarked : List Text → (marks : List Bool) → List Text
unmarked [] marks = []
unmarked (path ∷ paths) [] = path ∷ paths
unmarked (path ∷ paths) (true ∷ marks) = unmarked paths marks
unmarked (path ∷ paths) (false ∷ marks) = path ∷ unmarked paths marks

-- what became of a path, if it has changed where it has a mark alone, by the ids of the types with
-- it in the new table
abbrev pub marked_by : (mark : Bool) → List ℕ → Text → List Change
marked_by true ids path = Changed path ∷ []
marked_by false ids path = removed_by ids path

-- what became of all paths, if those with a mark alone have changed
abbrev pub marked_changes : List PortableType → List Text → (marks : List Bool) → List Change
marked_changes others [] marks = []
marked_changes others (path ∷ paths) [] = []
marked_changes others (path ∷ paths) (mark ∷ marks) =
    marked_by mark (ids_of path others) path ++ marked_changes others paths marks
