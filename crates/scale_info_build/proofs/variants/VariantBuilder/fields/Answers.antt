use Rattle.std.proofs.Common.{rules}
use Rattle.scale_info_build.proofs.variants.VariantBuilder.fields.Goals as goal

pub returns-clause-fields : goal.returns-clause-fields
returns-clause-fields g c = search rules
