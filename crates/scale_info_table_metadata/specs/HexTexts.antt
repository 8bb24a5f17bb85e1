-- Bytes that a text writes in hexadecimal digits.
use Rattle.std.specs.Prelude.{ℕ, ◌==◌, ◌||◌, List, [], ◌∷◌, Bool, Option, None, length, reverse}
use Rattle.std.specs.Prelude.{if◌then◌else◌}
use Rattle.scale_info_hexadecimal.specs.Digits.{bytes_by_digits, without_mark}

-- whether this byte may stand around the digits: a space, a tab, a line feed, a carriage return, or
-- a quote
abbrev pub is_around : ℕ → Bool
is_around byte = byte == 32 || (byte == 9 || (byte == 10 || (byte == 13 || byte == 34)))

-- the bytes from the first on that does not stand around the digits
abbrev pub trimmed_start : List ℕ → List ℕ
trimmed_start [] = []
trimmed_start (byte ∷ bytes) =
    if is_around byte then trimmed_start bytes else byte ∷ bytes

-- the bytes up to the last that does not stand around the digits
abbrev pub trimmed_end : List ℕ → List ℕ
trimmed_end bytes = reverse (trimmed_start (reverse bytes))

-- what is left of a text without what stands around its digits
abbrev pub trimmed : List ℕ → List ℕ
trimmed text = trimmed_end (trimmed_start text)

-- the bytes that a text writes in two hexadecimal digits each, with `0x` before them or without it;
-- None where there is no digit
abbrev pub bytes_in : List ℕ → Option (List ℕ)
bytes_in text =
    if length (without_mark (trimmed text)) == 0 then None else bytes_by_digits (trimmed text)
