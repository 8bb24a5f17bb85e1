use Rattle.std.proofs.Common.{rules, of_calls, refl}
use Rattle.scale_info_build.proofs.variants.Variants.variant.Goals as goal

pub returns : goal.returns
returns g c = (
  record { name = c.args.name; index = record {}; fields = c.new.result },
  refl,
  c.new.ensures,
  c.in_ok-built.built,
  search (rules, of_calls),
  search rules,
)
