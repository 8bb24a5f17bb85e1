-- The lines for errors.
use Rattle.std.specs.Prelude.{ℕ, ◌≤◌, List, ◌++◌, codes}
use Rattle.std.specs.Fmt.{decimal}
use Rattle.type_table_io.specs.declared.error.RunError.{RunError}
use Rattle.type_table_io.specs.declared.error.RunError.TheVariants.{Malformed, TrailingBytes}
use Rattle.type_table_io.specs.declared.error.RunError.TheVariants.{NoSuchType, Dangling}
use Rattle.type_table_io.specs.declared.error.RunError.TheVariants.{Memory, Input, Output}
use Rattle.type_table_io.specs.declared.message.Message.{Message}
use Rattle.type_table_io.specs.declared.message.Message.TheVariants.{Usage, Refused}

-- the line of arguments that are not a command
abbrev pub usage_line : List ℕ
usage_line = codes "usage: type_table check | prune ID .. | json\n"

-- a line that ends with a text
abbrev pub line_with : List ℕ → List ℕ → List ℕ
line_with text end = text ++ (end ++ codes "\n")

-- a line that ends with an id, in decimal digits
abbrev pub id_line : List ℕ → ℕ → List ℕ
id_line text id = line_with text (decimal id)

-- the line that reports an error
abbrev pub line_of : RunError → List ℕ
line_of Malformed = codes "type_table: malformed\n"
line_of TrailingBytes = codes "type_table: trailing bytes\n"
line_of (NoSuchType id) = id_line (codes "type_table: no such type ") id
line_of (Dangling id) = id_line (codes "type_table: dangling id ") id
line_of Memory = codes "type_table: out of memory\n"
line_of Input = codes "type_table: input failed\n"
line_of Output = codes "type_table: output failed\n"

-- the line of a message
abbrev pub message_line : Message → List ℕ
message_line Usage = usage_line
message_line (Refused error) = line_of error

-- the id of an error, if it has one, is at most 4294967295
abbrev pub HasSmallId : RunError → Type 0
HasSmallId Malformed = Unit {0}
HasSmallId TrailingBytes = Unit {0}
HasSmallId (NoSuchType id) = id ≤ 4294967295
HasSmallId (Dangling id) = id ≤ 4294967295
HasSmallId Memory = Unit {0}
HasSmallId Input = Unit {0}
HasSmallId Output = Unit {0}
