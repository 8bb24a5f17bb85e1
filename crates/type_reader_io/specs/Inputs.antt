-- Inputs that are read, whole or line by line.
use Rattle.std.specs.Prelude.{◌≡◌, ◌⊎◌, ◌==◌, ℕ, List, All, false}
use Rattle.type_reader_io.specs.declared.error.ReaderError.{ReaderError}
use Rattle.type_reader_io.specs.declared.error.ReaderError.TheVariants as errors

-- why an input could not be read
abbrev pub IsReadError : ReaderError → Type 0
IsReadError error = (error ≡ errors.Memory) ⊎ (error ≡ errors.Input)

-- none of the bytes is a line feed
abbrev pub IsWithoutFeed : List ℕ → Type 0
IsWithoutFeed bytes = All (λ byte. (byte == 10) ≡ false) bytes
