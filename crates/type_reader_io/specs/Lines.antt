-- The lines for errors.
use Rattle.std.specs.Prelude.{◌≡◌, ◌≤◌, ℕ, List, ◌++◌, codes, decimal}
use Rattle.type_table_io.specs.Lines.{line_with}
use Rattle.type_reader_io.specs.declared.error.ReaderError.{ReaderError}
use Rattle.type_reader_io.specs.declared.error.ReaderError.TheVariants as errors
use Rattle.type_reader_io.specs.declared.error.ValueFault.{ValueFault}
use Rattle.type_reader_io.specs.declared.error.ValueFault.TheVariants as faults
use Rattle.type_reader_io.specs.declared.message.Message.{Message}
use Rattle.type_reader_io.specs.declared.message.Message.TheVariants as messages

-- the line of arguments that are not a command
abbrev pub usage_line : List ℕ
usage_line =
    codes
    "usage: type_reader table TABLE | strip TABLE | list TABLE [TYPE ..] | find TABLE PATTERN | prune TABLE TYPE .. | graph TABLE TYPE .. | diff [--docs] OLD NEW [PATH ..] | value TABLE TYPE [HEX] | encode TABLE TYPE [JSON]\n"

-- why a text gives no value, in words
abbrev pub fault_text : ValueFault → List ℕ
fault_text faults.NoDigits = codes "no hexadecimal digits"
fault_text faults.NoJson = codes "no JSON"
fault_text faults.NoSuchType = codes "no such type"
fault_text faults.Unsupported = codes "unsupported"
fault_text faults.TooDeep = codes "too deep"
fault_text faults.Malformed = codes "malformed"
fault_text faults.TrailingBytes = codes "trailing bytes"
fault_text faults.Mismatch = codes "mismatch"

-- the line that reports an error; a number is in decimal digits
abbrev pub line_of : ReaderError → List ℕ
line_of errors.Malformed = codes "type_reader: malformed\n"
line_of (errors.Version version) =
    line_with (codes "type_reader: metadata of version ") (decimal version)
line_of errors.TrailingBytes = codes "type_reader: trailing bytes\n"
line_of (errors.NoSuchType id) = line_with (codes "type_reader: no such type ") (decimal id)
line_of (errors.NoSuchPath path) = line_with (codes "type_reader: no such path ") path
line_of (errors.SharedPath path) =
    line_with (codes "type_reader: several types with path ") path
line_of (errors.NoValue fault) = line_with (codes "type_reader: no value: ") (fault_text fault)
line_of (errors.Dangling id) = line_with (codes "type_reader: dangling id ") (decimal id)
line_of errors.Input = codes "type_reader: input failed\n"
line_of errors.Output = codes "type_reader: output failed\n"
line_of errors.Memory = codes "type_reader: out of memory\n"

-- the number of an error, if it has one, is at most 255 for a version, and 4294967295 for an id
abbrev pub HasSmallNumber : ReaderError → Type 0
HasSmallNumber (errors.Version version) = version ≤ 255
HasSmallNumber (errors.NoSuchType id) = id ≤ 4294967295
HasSmallNumber (errors.Dangling id) = id ≤ 4294967295
HasSmallNumber error = Unit {0}

-- the line of a path begins with that of this start of it, which is all of it but where a line feed
-- comes after it
abbrev pub IsPathStart : (start path : List ℕ) → Type 0
IsPathStart start path =
    (rest : List ℕ) × (path ++ codes "\n" ≡ (start ++ codes "\n") ++ rest)

-- The error of which a line reports this one: it is the same, or has a longer path.
abbrev pub IsReportedAs : (reported error : ReaderError) → Type 0
IsReportedAs (errors.NoSuchPath start) error =
    (path : List ℕ) × (error ≡ errors.NoSuchPath path) × IsPathStart start path
IsReportedAs (errors.SharedPath start) error =
    (path : List ℕ) × (error ≡ errors.SharedPath path) × IsPathStart start path
IsReportedAs reported error = error ≡ reported

-- the line that reports that a line of the second input, with this number, gives no value
abbrev pub bad_line : ℕ → ValueFault → List ℕ
bad_line number fault =
    codes "type_reader: line "
    ++ (decimal number ++ line_with (codes ": no value: ") (fault_text fault))

-- the text of a message
abbrev pub message_text : Message → List ℕ
message_text messages.Usage = usage_line
message_text (messages.Refused error) = line_of error
message_text (messages.Notes notes) = notes.items
message_text (messages.BadLine number fault) = bad_line number fault
