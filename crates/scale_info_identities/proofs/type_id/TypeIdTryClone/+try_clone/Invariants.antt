use Rattle.std.proofs.Common.{◌≡◌, take}
use Rattle.scale_info_identities.proofs.type_id.TypeIdTryClone.+try_clone.Given as goal

abbrev pub invariant-loop-arg : goal.invariant-loop-arg
invariant-loop-arg l = l.args ≡ take l.arg-index l.arg-items
