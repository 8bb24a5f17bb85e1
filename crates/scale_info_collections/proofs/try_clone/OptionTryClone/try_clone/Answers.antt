use Rattle.std.proofs.Common.{rules}
use Rattle.scale_info_collections.proofs.try_clone.OptionTryClone.try_clone.Goals as goal

pub returns-in_ok-try_clone-in-Some : goal.returns-in_ok-try_clone-in-Some
returns-in_ok-try_clone-in-Some g c = search rules
