-- The encoding of a reading.
use Rattle.std.specs.Prelude.{ℕ, List}
use Rattle.scale_info.specs.Integers.{EncodesU32}
use Rattle.scale_info.specs.Parts.{EncodesPair}
use Rattle.example_callers.specs.declared.temperature.Reading.{Reading}

-- the fields of a reading, as a pair
abbrev pub reading_parts : Reading → ℕ × ℕ
reading_parts reading = (reading.seconds, reading.centikelvins)

-- a reading is its fields in order, four bytes each
abbrev pub EncodesReading : Reading → List ℕ → Type 0
EncodesReading reading bytes = EncodesPair EncodesU32 EncodesU32 (reading_parts reading) bytes
