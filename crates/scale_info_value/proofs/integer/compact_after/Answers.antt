use Rattle.std.proofs.Common.{rules}
use Rattle.std.proofs.Common.{arith, ◌+◌}
use Rattle.scale_info_value.proofs.Bounds.{power_fits}
use Rattle.scale_info_value.proofs.integer.compact_after.Goals as goal

pub pow-least-requires : goal.pow-least-requires
pow-least-requires c = let h = power_fits (c.args.high + 3) (omega arith) in omega arith

pub returns-in_ok-n-in_default-clause-ok : goal.returns-in_ok-n-in_default-clause-ok
returns-in_ok-n-in_default-clause-ok c = search rules
