-- Lists of integers of one width.
use Rattle.std.specs.Prelude.{ℕ, ◌*◌, ◌/◌, Bool, List, length, take, drop, map}
use Rattle.std.specs.Int.{byte_len}
use Rattle.std.specs.List.{range_with_len}
use Rattle.scale_info_value.specs.declared.value.Value.{Value}
use Rattle.scale_info_value.specs.declared.value.Value.TheVariants as Values
use Rattle.scale_info_value.specs.declared.integer.IntegerWidth.{IntegerWidth}
use Rattle.scale_info_value.specs.IntegerWidths.{width_of, integer_of}
use Rattle.scale_info_value_borrowed.specs.declared.integers.Integers.{Integers}
use Rattle.scale_info_value_borrowed.specs.declared.integers.Integer.{Integer}
use Rattle.scale_info_value_borrowed.specs.declared.integers.Integer.TheVariants as integer

-- the item at an index, before which each item has as many bytes
abbrev pub item_at : IntegerWidth → Bool → List ℕ → ℕ → Value
item_at width signed bytes index =
    integer_of width signed
    (take (byte_len (width_of width)) (drop (index * byte_len (width_of width)) bytes))

-- as many items as there are bytes for
abbrev pub integers_of : Integers → List Value
integers_of list =
    map (item_at list.width list.signed list.bytes.now)
    (range_with_len 0 (length list.bytes.now / byte_len (width_of list.width)))

-- the integer, as a value
abbrev pub value_of_integer : Integer → Value
value_of_integer (integer.Unsigned n) = Values.Unsigned n
value_of_integer (integer.Signed n) = Values.Signed n
