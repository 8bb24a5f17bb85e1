use Rattle.std.proofs.Common.{◌≡◌, drop}
use Rattle.scale_info_segments.specs.TypePaths.{replaced, text_pairs}
use Rattle.scale_info_segments.proofs.segments.replacement.Given as goal

abbrev pub invariant-loop-from : goal.invariant-loop-from
invariant-loop-from l =
    replaced (text_pairs l.pairs) l.text ≡ replaced (text_pairs (drop l.from-index l.pairs)) l.text
