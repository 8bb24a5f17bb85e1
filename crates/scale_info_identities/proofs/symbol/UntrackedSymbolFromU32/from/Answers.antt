use Rattle.std.proofs.Common.{rules}
use Rattle.scale_info_identities.proofs.symbol.UntrackedSymbolFromU32.from.Goals as goal

pub returns : goal.returns
returns g c = search rules
