-- What each command writes for its input.
use Rattle.std.specs.Prelude.{◌≡◌, ℕ, List, [], ◌++◌, codes}
use Rattle.std.specs.declared.option.Option.{Option}
use Rattle.std.specs.Io.KnownBytes.{Appends}
use Rattle.serde_json.specs.Written.{compact_text}
use Rattle.scale_info_bytes.specs.Encodings.{HasPrefix}
use Rattle.scale_info_grammar.specs.Ty.{EncodesTypes}
use Rattle.scale_info_json_trees.specs.EntryTrees.{types_tree}
use Rattle.scale_info_table_prune.specs.Prunes.{IsPrunedEncoding}
use Rattle.scale_info_types.specs.declared.ty.PortableType.{PortableType}
use Rattle.type_table_io.specs.Commands.{given_ids}
use Rattle.type_table_io.specs.declared.command.Command.{Command}
use Rattle.type_table_io.specs.declared.command.Command.TheVariants.{Check, Prune, Json}
use Rattle.type_table_run.specs.OneTable.{IsOneTable}
use Rattle.type_table_io.specs.Reports.{AppendsPrefix}

-- the input encodes one table, and the output is an encoding of the table of the numbering of it
-- from the given ids in ascending order, each once
pub record IsPrunedTo (given input output : List ℕ) : Type 0 where
  pub order : List ℕ
  pub pruned : IsPrunedEncoding input given order [] output

-- the compact text of the JSON tree of the table of these entries, and a line feed
abbrev pub json_line : List PortableType → List ℕ
json_line types = compact_text (types_tree types) ++ codes "\n"

-- the input begins with a table, this is the rest, and the line is the table's
pub record BeginsWithJson (input rest line : List ℕ) : Type 0 where
  pub types : List PortableType
  pub read : HasPrefix (EncodesTypes types) input rest
  pub text : line ≡ json_line types

-- the input is one table, and the output its JSON line
pub record IsJsonOf (input output : List ℕ) : Type 0 where
  pub types : List PortableType
  pub encodes : EncodesTypes types input
  pub text : output ≡ json_line types

-- for the whole input the command has this output
abbrev pub Outputs : Command → List ℕ → List ℕ → Type 0
Outputs Check input output = IsOneTable input × (output ≡ input)
Outputs (Prune ids) input output = IsPrunedTo (given_ids (Prune ids)) input output
Outputs Json input output = IsJsonOf input output

-- known bytes grow by the command's output for the input
pub record Writes (command : Command) (old new : Option (List ℕ)) (input : List ℕ) : Type 0 where
  pub output : List ℕ
  pub outputs : Outputs command input output
  pub appends : Appends old new output

-- the command has an output for the input, and known bytes grow by a prefix of it
pub record WritesPrefix (command : Command) (old new : Option (List ℕ))
    (input : List ℕ) : Type 0 where
  pub output : List ℕ
  pub outputs : Outputs command input output
  pub appends : AppendsPrefix old new output
