use Rattle.std.proofs.Common.{◌≡◌, ◌∷◌, ℕ, List, take}
use Rattle.std.specs.Fmt.{HasWritten, HasWrittenStyled, IsFlush, IsPlainFormatter}
use Rattle.scale_info_segments.specs.TypePaths.{joined}
use Rattle.scale_info_types.proofs.ty.path.PathPortableFormDisplay.fmt.Given as goal

abbrev pub invariant-loop-segment : goal.invariant-loop-segment
invariant-loop-segment g l =
    (first : List ℕ) × (l.fn.self.segments ≡ first ∷ l.others)
    × (IsPlainFormatter l.fn.f → HasWritten g.W.Write.write_str_gives l.fn.f (joined (first ∷ take l.segment-index l.others)) l.f)
    × (IsFlush l.fn.f → HasWrittenStyled g.W.Write.write_str_gives l.fn.f (joined (first ∷ take l.segment-index l.others)) l.f)
