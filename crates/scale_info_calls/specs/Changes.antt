-- What changed between two tables that are whole inputs, as lines.
use Rattle.std.specs.Prelude.{◌≡◌, ◌++◌, ◌⊎◌, ℕ, List, codes}
use Rattle.std.specs.List.{flat_map}
use Rattle.scale_info_table_diff.specs.TableChanges.{AreChanges, IsDangling}
use Rattle.scale_info_table_diff.specs.declared.change.Change.{Change}
use Rattle.scale_info_table_diff.specs.declared.change.Change.TheVariants.{Removed, Added, Changed}
use Rattle.scale_info_grammar.specs.Ty.{EncodesTypes}
use Rattle.scale_info_types.specs.declared.ty.PortableType.{PortableType}
use Rattle.scale_info_calls.specs.WholeTables.{IsTableRefusal}
use Rattle.scale_info_calls.specs.declared.error.CallError.{CallError}
use Rattle.scale_info_calls.specs.declared.error.CallError.TheVariants as errors

-- the line of a change: a sign, a blank, its path and a line feed
abbrev pub change_line : Change → List ℕ
change_line (Removed path) = codes "- " ++ (path ++ codes "\n")
change_line (Added path) = codes "+ " ++ (path ++ codes "\n")
change_line (Changed path) = codes "~ " ++ (path ++ codes "\n")

-- both inputs are tables, and these are the lines of what changed between them, in order
pub record AreChangeLines (old new output : List ℕ) : Type 0 where
  pub types : List PortableType
  pub others : List PortableType
  pub encodes : EncodesTypes types old
  pub other_encodes : EncodesTypes others new
  pub changes : List Change
  pub changed : AreChanges types others changes
  pub lines : output ≡ flat_map change_line changes

-- the input is one table, of which an entry refers to this id, which is no index
pub record HasDanglingEntry (input : List ℕ) (id : ℕ) : Type 0 where
  pub types : List PortableType
  pub encodes : EncodesTypes types input
  pub dangling : IsDangling types id

-- why two inputs are not compared: one of them is not one table; or an entry of one of them refers
-- to an id that is no index; or an allocation failed
abbrev pub IsChangesRefusal : (old new : List ℕ) → CallError → Type 0
IsChangesRefusal old new (errors.Dangling id) = HasDanglingEntry old id ⊎ HasDanglingEntry new id
IsChangesRefusal old new errors.Memory = Unit {0}
IsChangesRefusal old new error = IsTableRefusal old error ⊎ IsTableRefusal new error
