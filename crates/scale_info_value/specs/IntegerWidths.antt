-- Integers of a built-in type by their bytes.
use Rattle.std.specs.Prelude.{ℕ, Bool, List, if◌then◌else◌}
use Rattle.std.specs.Int.{Width, w8, w16, w32, w64, w128, byte_len, cast_signed}
use Rattle.scale_info_value.specs.declared.integer.IntegerWidth.{IntegerWidth}
use Rattle.scale_info_value.specs.declared.integer.IntegerWidth.TheVariants as width
use Rattle.scale_info_value.specs.declared.value.Value.{Value}
use Rattle.scale_info_value.specs.declared.value.Value.TheVariants as Values
use Rattle.scale_info_value.specs.Outcomes.{Decoder, outcome_map}
use Rattle.scale_info_value.specs.IntegerDecoders.{bytes, little_endian}

-- the width of an integer in so many bytes
abbrev pub width_of : IntegerWidth → Width
width_of width.One = w8
width_of width.Two = w16
width_of width.Four = w32
width_of width.Eight = w64
width_of width.Sixteen = w128

-- the integer in these bytes, the lowest first; in two's complement where it has a sign
abbrev pub integer_of : IntegerWidth → Bool → List ℕ → Value
integer_of width signed bytes =
    if signed then Values.Signed (cast_signed (width_of width) (little_endian bytes))
    else Values.Unsigned (little_endian bytes)

-- the integer at the start of the input
abbrev pub integer_within : IntegerWidth → Bool → Decoder Value
integer_within width signed input =
    outcome_map (integer_of width signed) (bytes (byte_len (width_of width)) input)
