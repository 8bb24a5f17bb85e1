-- Integers at the start of bytes.
use Rattle.std.specs.Prelude.{ℕ, ◌+◌, ◌*◌, ◌/◌, ◌%◌, ◌^◌, ◌==◌, List, [], ◌∷◌, length, take, drop}
use Rattle.std.specs.Prelude.{max}
use Rattle.std.specs.Prelude.{if◌then◌else◌, nat_le, nat_lt}
use Rattle.scale_info_value.specs.Outcomes.{Decoder, decoded, failed, malformed, and_then}
use Rattle.scale_info_value.specs.Outcomes.{outcome_map}

-- the first byte
abbrev pub byte : Decoder ℕ
byte [] = failed malformed
byte (first ∷ rest) = decoded first rest

-- so many bytes
abbrev pub bytes : ℕ → Decoder (List ℕ)
bytes count input =
    if nat_le count (length input) then decoded (take count input) (drop count input)
    else failed malformed

-- an integer by its bytes, the lowest first
abbrev pub little_endian : List ℕ → ℕ
little_endian [] = 0
little_endian (low ∷ high) = low + 256 * little_endian high

-- an integer in so many bytes, the lowest first
abbrev pub integer : ℕ → Decoder ℕ
integer width input = outcome_map little_endian (bytes width input)

-- an integer that is not below the least
abbrev pub at_least : ℕ → ℕ → Decoder ℕ
at_least least n rest = if nat_le least n then decoded n rest else failed malformed

-- an integer that is below the limit
abbrev pub below : ℕ → ℕ → Decoder ℕ
below limit n rest = if nat_lt n limit then decoded n rest else failed malformed

-- an integer of which the 6 low bits are `high` and the others follow in so many bytes
abbrev pub low_bits_first : ℕ → ℕ → ℕ → Decoder ℕ
low_bits_first width least high input =
    and_then (integer width input) (λ n rest. at_least least (high + 64 * n) rest)

-- an integer of `high + 4` bytes that does not fit fewer
abbrev pub many_bytes : ℕ → Decoder ℕ
many_bytes high input =
    and_then (integer (high + 4) input)
    (λ n rest. at_least (max 1073741824 (256 ^ (high + 3))) n rest)

-- What follows the first byte of a compact integer. The two low bits of that byte are the mode, its
-- six high bits are `high`. Each integer has one encoding, the shortest: 0 to 63 is `high` itself;
-- 64 to 16383 has its 6 low bits there and one byte more, 16384 to 1073741823 three bytes more; and
-- from there on `high + 4` bytes follow, from 4 to 16.
abbrev pub compact_after : ℕ → ℕ → Decoder ℕ
compact_after mode high input =
    if mode == 0 then decoded high input
    else if mode == 1 then low_bits_first 1 64 high input
    else if mode == 2 then low_bits_first 3 16384 high input
    else if nat_le high 12 then many_bytes high input
    else failed malformed

-- a compact integer
abbrev pub compact : Decoder ℕ
compact input = and_then (byte input) (λ first rest. compact_after (first % 4) (first / 4) rest)

-- a compact integer below the limit
abbrev pub compact_below : ℕ → Decoder ℕ
compact_below limit input = and_then (compact input) (λ n rest. below limit n rest)

-- how many items or bytes follow
abbrev pub count : Decoder ℕ
count input = compact_below (2 ^ 32) input
