use Rattle.std.proofs.Common.{◌≡◌, ◌∷◌, take}
use Rattle.std.specs.Fmt.{HasWritten, IsPlainFormatter}
use Rattle.scale_info_value_encode.specs.declared.path.Step.{Step}
use Rattle.scale_info_value_encode.specs.Paths.{path_text}
use Rattle.scale_info_value_encode.proofs.path.ValuePathDisplay.fmt.Given as goal

abbrev pub invariant-loop-step : goal.invariant-loop-step
invariant-loop-step g l =
    (first : Step) × (l.fn.self.steps ≡ first ∷ l.others)
    × (IsPlainFormatter l.fn.f
    → HasWritten g.W.Write.write_str_gives l.fn.f (path_text (first ∷ take l.step-index l.others)) l.f)
