-- Bytes that hexadecimal digits write.
use Rattle.std.specs.Prelude.{◌≡◌, ◌==◌, ◌<◌, ℕ, List, Option, Some, None, codes, drop, length}
use Rattle.std.specs.Prelude.{if◌then◌else◌}
use Rattle.std.specs.List.{slice_index, starts_with}
use Rattle.std.specs.Result.{result_ok}
use Rattle.hex.specs.Hex.{decode_of, hex_digit_value}

-- the text without the mark `0x` at its start
abbrev pub without_mark : List ℕ → List ℕ
without_mark text = if starts_with ◌==◌ text (codes "0x") then drop 2 text else text

-- the bytes that an even number of hexadecimal digits writes, two for each, in upper or lower case;
-- `0x` may stand before them
abbrev pub bytes_by_digits : List ℕ → Option (List ℕ)
bytes_by_digits text = result_ok (decode_of (without_mark text))

-- these are the values of the digits
pub record AreValues (digits values : List ℕ) : Type 0 where
  pub same : length values ≡ length digits
  pub each :
      (k : ℕ) → k < length digits
      → hex_digit_value (slice_index digits k) ≡ Some (slice_index values k)

-- one of the bytes is no digit
pub record HasNoDigit (text : List ℕ) : Type 0 where
  pub place : ℕ
  pub within : place < length text
  pub none : hex_digit_value (slice_index text place) ≡ None
