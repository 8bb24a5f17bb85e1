-- Pieces of an input.
use Rattle.std.specs.Prelude.{◌≡◌, ◌++◌, ℕ, List, [], ◌∷◌, OnSome}
use Rattle.std.specs.declared.option.Option.{Option}
use Rattle.std.specs.Io.KnownBytes.{Consumes, IsAtEnd}
use Rattle.type_reader_lines.specs.declared.reading.Piece.{Piece}
use Rattle.type_reader_lines.specs.declared.reading.Piece.TheVariants as pieces

-- the line, which begins with this start, was read on: to its line feed; by some bytes; or not, at
-- the end of the input
abbrev pub IsPiece : Piece → (second_old second_new : Option (List ℕ)) → (start line : List ℕ)
    → Type 0
IsPiece (pieces.Line more) second_old second_new start line =
    (end : List ℕ) × Consumes second_old second_new (end ++ 10 ∷ []) × (line ≡ start ++ end)
IsPiece pieces.Part second_old second_new start line =
    (bytes : List ℕ) × Consumes second_old second_new bytes × (line ≡ start ++ bytes)
IsPiece pieces.End second_old second_new start line =
    Consumes second_old second_new [] × OnSome second_old (IsAtEnd second_new) × (line ≡ start)
