use Rattle.scale_info_bytes.proofs.Options.{none_is}
use Rattle.scale_info_passes.proofs.Passes.{visited_alone}
use Rattle.scale_info_passes.proofs.pass.AnyPass.pass.Goals as goal

pub returns-in_err-rest-clause-none : goal.returns-in_err-rest-clause-none
returns-in_err-rest-clause-none g c = none_is c.from_residual.result c.in_err-rest.ensures.none

pub returns-clause-some : goal.returns-clause-some
returns-clause-some g c =
    visited_alone g.T.Verbatim.encodes c.in_ok-rest.field-0-0 c.in_ok-rest.ensures.some c.visit_verbatim.ensures
