-- Integers as bytes.
use Rattle.std.specs.Prelude.{ℕ, zero, suc, ◌+◌, ◌-◌, ◌*◌, ◌^◌, List, [], ◌∷◌, Bool, ℤ, pos, negsuc}
use Rattle.std.specs.Prelude.{if◌then◌else◌, nat_lt}
use Rattle.std.specs.Int.{Width, bytes_low_first, byte_len}
use Rattle.scale_info_value_encode.specs.Writers.{Writer, if_fits}

-- an integer in so many bytes, the lowest first
abbrev pub integer_bytes : ℕ → ℕ → List ℕ
integer_bytes width n = bytes_low_first 0 width n

-- The first of these widths that the integer fits: `least` bytes, and up to so many more. The last
-- one is not tried.
abbrev pub first_width : ℕ → ℕ → ℕ → ℕ
first_width zero least n = least
first_width (suc more) least n =
    if nat_lt n (256 ^ least) then least else first_width more (least + 1) n

-- an integer in so many bytes, 4 or more, after a byte that says how many
abbrev pub many_bytes : ℕ → ℕ → List ℕ
many_bytes width n = (4 * (width - 4) + 3) ∷ integer_bytes width n

-- A compact integer below 2 to the 128, in its shortest form. The two low bits of the first byte
-- are the mode: 0 to 63 takes one byte, 64 to 16383 two, 16384 to 1073741823 four; and from there
-- on the bytes that it fits, from 4 to 16, stand after a byte that says how many.
abbrev pub compact_bytes : ℕ → List ℕ
compact_bytes n =
    if nat_lt n 64 then (4 * n) ∷ []
    else if nat_lt n 16384 then integer_bytes 2 (4 * n + 1)
    else if nat_lt n 1073741824 then integer_bytes 4 (4 * n + 2)
    else many_bytes (first_width 12 4 n) n

-- a compact integer below the limit
abbrev pub compact_below : ℕ → Writer ℕ
compact_below limit n = if_fits (nat_lt n limit) (compact_bytes n)

-- how many items or bytes follow
abbrev pub count : Writer ℕ
count n = compact_below (2 ^ 32) n

-- a signed integer is one of the width: from half the limit below 0 to one less than half of it
abbrev pub is_signed_of : Width → ℤ → Bool
is_signed_of w (pos n) = nat_lt (2 * n) (256 ^ byte_len w)
is_signed_of w (negsuc n) = nat_lt (2 * n) (256 ^ byte_len w)
