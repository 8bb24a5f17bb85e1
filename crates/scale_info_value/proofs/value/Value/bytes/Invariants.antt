use Rattle.std.proofs.Common.{◌≡◌, map, take}
use Rattle.scale_info_value.specs.declared.value.Value.TheVariants as Values
use Rattle.scale_info_value.proofs.value.Value.bytes.Given as goal

abbrev pub invariant-loop-byte : goal.invariant-loop-byte
invariant-loop-byte l = l.values ≡ map Values.Unsigned (take l.byte-index l.bytes)
