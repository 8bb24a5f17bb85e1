use Rattle.std.proofs.Common.{◌∙◌}
use Rattle.scale_info_catalogue.proofs.Catalogues.{described_by_term}
use Rattle.scale_info_catalogue.proofs.catalogue.Catalogue.get.Goals as goal

pub returns : goal.returns
returns c = c.get.ensures.value ∙ described_by_term c.args.self.now c.args.identity.now
