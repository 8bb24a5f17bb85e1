use Rattle.std.proofs.lemmas.Option.{IfSome_then}
use Rattle.scale_info_passes.proofs.visitors.skip.Goals as goal

pub returns-clause-some : goal.returns-clause-some
returns-clause-some g c = IfSome_then c.pass.result c.pass.ensures.some (λ rest v. record { value = v.value; prefix = v.by.prefix })
