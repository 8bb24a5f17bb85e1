use Rattle.std.proofs.Common.{rules}
use Rattle.scale_info_codec.proofs.option.OptionScale.encode_to.Goals as goal

pub returns-in_ok-push-in-None-clause-ok : goal.returns-in_ok-push-in-None-clause-ok
returns-in_ok-push-in-None-clause-ok g c = search rules
