-- Tables as JSON texts.
use Rattle.std.specs.Prelude.{◌≡◌, ℕ, List, Some, None}
use Rattle.serde_json.specs.Data.{Data}
use Rattle.serde_json.specs.Read.{read}
use Rattle.scale_info_json_tree.specs.JsonTables.{MeansTable}
use Rattle.scale_info_json_trees.specs.Meaning.{IsMeaningless}
use Rattle.scale_info_table.specs.declared.portable.PortableRegistry.{PortableRegistry}
use Rattle.scale_info_json_text.specs.declared.error.JsonTextError.{JsonTextError}
use Rattle.scale_info_json_text.specs.declared.error.JsonTextError.TheVariants as error
use Rattle.scale_info_json_text.specs.declared.stop.Stop.{Stop}
use Rattle.scale_info_json_text.specs.declared.stop.Stop.TheVariants as stop

-- `serde_json` reads the text as a tree, and the tree means the table
pub record TextMeans (text : List ℕ) (table : PortableRegistry) : Type 0 where
  pub tree : Data
  pub is : read text ≡ Some tree
  pub means : MeansTable tree table

-- `serde_json` reads the text as a tree, and the tree means no table
pub record TextMeansNone (text : List ℕ) : Type 0 where
  pub tree : Data
  pub is : read text ≡ Some tree
  pub none : IsMeaningless (MeansTable tree)

-- what an error says of the text
abbrev pub IsErrorOf : List ℕ → JsonTextError → Type 0
IsErrorOf text error.Syntax = read text ≡ None
IsErrorOf text error.Shape = TextMeansNone text
IsErrorOf text error.Memory = Unit {0}

-- the error of a reader that stopped
abbrev pub stop_error : Stop → JsonTextError
stop_error stop.Syntax = error.Syntax
stop_error stop.Memory = error.Memory
