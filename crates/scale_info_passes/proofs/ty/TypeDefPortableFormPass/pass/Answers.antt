use Rattle.std.proofs.Common.{arith, refl}
use Rattle.scale_info_bytes.proofs.Index.{begins}
use Rattle.scale_info_grammar.proofs.Definitions.{no_prefix_definition}
use Rattle.scale_info_passes.proofs.Passes.{visited_definition}
use Rattle.scale_info_bytes.proofs.Options.{some_on, none_on}
use Rattle.scale_info_passes.proofs.ty.TypeDefPortableFormPass.pass.Goals as goal

pub returns-in-len1-up-clause-some : goal.returns-in-len1-up-clause-some
returns-in-len1-up-clause-some g c =
    some_on c.pass_parts.result
    (λ rest p. visited_definition g.met.V.Visitor.visited_append _ (begins _ c.args.input.now (omega arith) refl) c.visit_verbatim.ensures p) c.pass_parts.ensures.some

pub returns-in-len1-up-clause-none : goal.returns-in-len1-up-clause-none
returns-in-len1-up-clause-none g c =
    none_on c.pass_parts.result
    (λ n. no_prefix_definition _ (begins _ c.args.input.now (omega arith) refl) n) c.pass_parts.ensures.none
