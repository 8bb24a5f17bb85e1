use Rattle.std.proofs.Common.{◌≡◌, take}
use Rattle.scale_info_types.proofs.form.copy_strings.Given as goal

abbrev pub invariant-loop-text : goal.invariant-loop-text
invariant-loop-text g l = l.copy ≡ take l.text-index l.text-items
