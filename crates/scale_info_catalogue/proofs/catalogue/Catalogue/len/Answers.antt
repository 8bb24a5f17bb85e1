use Rattle.std.proofs.Common.{rules}
use Rattle.scale_info_catalogue.proofs.catalogue.Catalogue.len.Goals as goal

pub returns : goal.returns
returns c = search rules
