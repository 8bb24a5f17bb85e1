use Rattle.std.proofs.Common.{sym}
use Rattle.scale_info_value_borrowed.proofs.Parts.{variant_found, no_variant}
use Rattle.scale_info_value_borrowed.proofs.borrowed.ValueRef.variant.Goals as goal

pub returns-in-Variant : goal.returns-in-Variant
returns-in-Variant c =
    sym (variant_found c.args.self.now c.in-Variant.name c.in-Variant.index c.in-Variant.fields c.in-Variant.is)

pub returns-in_default : goal.returns-in_default
returns-in_default c = sym (no_variant c.args.self.now c.in_default.not-Variant)
