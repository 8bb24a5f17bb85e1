use Rattle.std.proofs.Common.{◌≡◌, take, map}
use Rattle.scale_info_registry.proofs.registry.conversion.copied_texts.Given as goal

abbrev pub invariant-loop-source : goal.invariant-loop-source
invariant-loop-source l = l.copies ≡ map (λ text. text.now) (take l.source-index l.source-items)
