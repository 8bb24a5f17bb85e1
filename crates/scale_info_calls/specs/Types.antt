-- Types of a table that is a whole input: found by their paths, and as Rust declares them.
use Rattle.std.specs.Prelude.{◌≡◌, ◌≤◌, ℕ, List, Some, IsUtf8, length}
use Rattle.scale_info_table_describe.specs.PathSearches.{AreIdsBy, is_path}
use Rattle.scale_info_table_describe.specs.TypeDeclarations.{description_at}
use Rattle.scale_info_grammar.specs.Ty.{EncodesTypes}
use Rattle.scale_info_types.specs.declared.ty.PortableType.{PortableType}
use Rattle.scale_info_calls.specs.WholeTables.{IsTableRefusal}
use Rattle.scale_info_calls.specs.declared.error.CallError.{CallError}
use Rattle.scale_info_calls.specs.declared.error.CallError.TheVariants as errors

-- the input is one table, and these are the ids, ascending, of its types with this path
pub record AreFound (input path ids : List ℕ) : Type 0 where
  pub types : List PortableType
  pub encodes : EncodesTypes types input
  pub found : AreIdsBy is_path types path ids

-- why no types are found by a path
abbrev pub IsFindRefusal : (input path : List ℕ) → CallError → Type 0
IsFindRefusal input path errors.NoText = ¬ (IsUtf8 path)
IsFindRefusal input path error = IsTableRefusal input error

-- the input is one table, and the text is the declaration of its type with this id
pub record IsDeclaration (input : List ℕ) (id : ℕ) (text : List ℕ) : Type 0 where
  pub types : List PortableType
  pub encodes : EncodesTypes types input
  pub declared : description_at (record { types = types }) id ≡ Some text

-- the input is one table, of which the id is no index
pub record IsOutside (input : List ℕ) (id : ℕ) : Type 0 where
  pub types : List PortableType
  pub encodes : EncodesTypes types input
  pub outside : length types ≤ id

-- why nothing is made of the type with this id
abbrev pub IsIdRefusal : List ℕ → ℕ → CallError → Type 0
IsIdRefusal input id (errors.NoSuchType missing) = (missing ≡ id) × IsOutside input id
IsIdRefusal input id error = IsTableRefusal input error
