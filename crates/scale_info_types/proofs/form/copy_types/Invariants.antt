use Rattle.std.proofs.Common.{◌≡◌, take}
use Rattle.scale_info_types.proofs.form.copy_types.Given as goal

abbrev pub invariant-loop-ty : goal.invariant-loop-ty
invariant-loop-ty g l = l.copy ≡ take l.ty-index l.ty-items
