use Rattle.std.proofs.Common.{◌≡◌, length}
use Rattle.scale_info_table_metadata.specs.HexTexts.{trimmed_start}
use Rattle.scale_info_table_metadata.proofs.hexadecimal.trim_start.Given as goal

abbrev pub invariant-loop-rest : goal.invariant-loop-rest
invariant-loop-rest l = trimmed_start l.rest ≡ trimmed_start l.text

abbrev pub decreases-loop-rest : goal.decreases-loop-rest
decreases-loop-rest l = length l.rest
