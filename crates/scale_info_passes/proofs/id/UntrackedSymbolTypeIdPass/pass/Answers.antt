use Rattle.std.proofs.Common.{rules}
use Rattle.scale_info_bytes.proofs.Steps.{no_prefix_through}
use Rattle.scale_info_bytes.proofs.Options.{none_is}
use Rattle.scale_info_passes.proofs.id.UntrackedSymbolTypeIdPass.pass.Goals as goal

pub returns-in_err-id-clause-none : goal.returns-in_err-id-clause-none
returns-in_err-id-clause-none g c =
    none_is c.from_residual.result (no_prefix_through (λ v. v.id) c.in_err-id.ensures.none)

pub returns-clause-some : goal.returns-clause-some
returns-clause-some g c = search rules
