-- Why a command is refused, and what is reported of it.
use Rattle.std.specs.Prelude.{ℕ, List, IfSome}
use Rattle.std.specs.declared.option.Option.{Option}
use Rattle.std.specs.Io.KnownBytes.{Keeps}
use Rattle.scale_info_bytes.specs.Encodings.{HasNoPrefix}
use Rattle.scale_info_grammar.specs.Ty.{EncodesTypes}
use Rattle.scale_info_table_prune.specs.Prunes.{HasDangling, HasNoSuchType}
use Rattle.scale_info_table_prune.specs.TableIndexes.{HasTrailing}
use Rattle.type_table_io.specs.Commands.{HasCommand, IsCommand, given_ids}
use Rattle.type_table_io.specs.declared.command.Command.{Command}
use Rattle.type_table_io.specs.declared.error.RunError.{RunError}
use Rattle.type_table_io.specs.declared.error.RunError.TheVariants.{Malformed, TrailingBytes}
use Rattle.type_table_io.specs.declared.error.RunError.TheVariants.{NoSuchType, Dangling}
use Rattle.type_table_io.specs.declared.error.RunError.TheVariants.{Memory, Input, Output}
use Rattle.type_table_io.specs.declared.message.Message.{Message}
use Rattle.type_table_io.specs.declared.message.Message.TheVariants.{Usage, Refused}
use Rattle.type_table_io.specs.Lines.{HasSmallId, line_of}
use Rattle.type_table_run.specs.Outputs.{WritesPrefix}
use Rattle.type_table_io.specs.Reports.{AppendsPrefix}

-- why there is no output for the input, where these ids are given
abbrev pub IsCommandError : List ℕ → List ℕ → RunError → Type 0
IsCommandError given input Malformed = HasNoPrefix EncodesTypes input
IsCommandError given input TrailingBytes = HasTrailing input
IsCommandError given input (NoSuchType id) = HasNoSuchType input given id
IsCommandError given input (Dangling id) = HasDangling input given id
IsCommandError given input Memory = Unit {0}
IsCommandError given input Input = ⊥
IsCommandError given input Output = ⊥

-- what an error of a command says of the known input, and of the output's known bytes before and
-- after
abbrev pub Explains : Command → (input old new : Option (List ℕ)) → RunError → Type 0
Explains command input old new Malformed =
    IfSome input (HasNoPrefix EncodesTypes) × Keeps old new
Explains command input old new TrailingBytes = IfSome input HasTrailing × Keeps old new
Explains command input old new (NoSuchType id) =
    IfSome input (λ bytes. HasNoSuchType bytes (given_ids command) id) × Keeps old new
Explains command input old new (Dangling id) =
    IfSome input (λ bytes. HasDangling bytes (given_ids command) id) × Keeps old new
Explains command input old new Memory = Keeps old new
Explains command input old new Input = Keeps old new
Explains command input old new Output = IfSome input (WritesPrefix command old new)

-- what a message says of the arguments, of the known input, and of the output's known bytes before
-- and after: that the arguments are no command, or why their command is refused
abbrev pub Says : List (List ℕ) → (input old new : Option (List ℕ)) → Message → Type 0
Says arguments input old new Usage = ¬ IsCommand arguments
Says arguments input old new (Refused error) =
    HasSmallId error × HasCommand arguments (λ command. Explains command input old new error)

-- one error holds, and known bytes of the writer for errors grow by a prefix of its line
pub record Refuses (command : Command)
    (input output_old output_new errors_old errors_new : Option (List ℕ)) : Type 0 where
  pub error : RunError
  pub small : HasSmallId error
  pub explains : Explains command input output_old output_new error
  pub reports : AppendsPrefix errors_old errors_new (line_of error)
