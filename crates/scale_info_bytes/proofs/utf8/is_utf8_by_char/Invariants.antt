use Rattle.std.proofs.Common.{length}
use Rattle.std.specs.Prelude.{IsUtf8}
use Rattle.scale_info_bytes.proofs.utf8.is_utf8_by_char.Given as goal

abbrev pub invariant-loop-rest : goal.invariant-loop-rest
invariant-loop-rest l = IsUtf8 l.rest → IsUtf8 l.bytes

abbrev pub decreases-loop-rest : goal.decreases-loop-rest
decreases-loop-rest l = length l.rest
