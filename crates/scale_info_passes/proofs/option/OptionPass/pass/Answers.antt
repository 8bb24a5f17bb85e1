use Rattle.std.proofs.Common.{arith, [], ◌∷◌, None, refl}
use Rattle.scale_info_bytes.proofs.Index.{begins, no_prefix_some}
use Rattle.scale_info_passes.proofs.Passes.{visited_verbatim, visited_some}
use Rattle.scale_info_bytes.proofs.Options.{some_on, none_on}
use Rattle.scale_info_passes.proofs.option.OptionPass.pass.Goals as goal

pub returns-in-0-clause-some : goal.returns-in-0-clause-some
returns-in-0-clause-some g c =
    visited_verbatim None
    (record { encoding = 0 ∷ []; encodes = refl; parts = (begins 0 c.args.input.now c.in-0.len_at_least (omega arith)).is }) c.visit_verbatim.ensures refl
    (λ f. refl)

pub returns-in-1-clause-some : goal.returns-in-1-clause-some
returns-in-1-clause-some g c =
    some_on c.pass.result
    (λ rest p. visited_some g.met.V.Visitor.visited_append (begins 1 c.args.input.now c.in-1.len_at_least (omega arith)) c.visit_verbatim-in-1.ensures p) c.pass.ensures.some

pub returns-in-1-clause-none : goal.returns-in-1-clause-none
returns-in-1-clause-none g c =
    none_on c.pass.result
    (λ n. no_prefix_some (begins 1 c.args.input.now c.in-1.len_at_least (omega arith)) n) c.pass.ensures.none
