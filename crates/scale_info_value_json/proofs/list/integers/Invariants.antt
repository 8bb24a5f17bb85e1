use Rattle.std.proofs.Common.{◌≡◌, ◌≤◌, length, map, take, vec_capacity, vec_len}
use Rattle.scale_info_value.specs.declared.value.Value.TheVariants as Values
use Rattle.scale_info_value_json.proofs.list.integers.Given as goal

abbrev pub invariant-loop-byte : goal.invariant-loop-byte
invariant-loop-byte l = record {
  done : l.values.items ≡ map Values.Unsigned (take l.byte-index l.bytes);
  long : vec_len l.values ≡ l.byte-index;
  room : length l.bytes ≤ vec_capacity l.values;
}
