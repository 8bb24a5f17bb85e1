use Rattle.std.proofs.Common.{refl}
use Rattle.scale_info_bytes.proofs.Steps.{no_prefix_through}
use Rattle.scale_info_grammar.specs.TyLaws.{path_of}
use Rattle.scale_info_passes.proofs.Passes.{visited_into, no_references}
use Rattle.scale_info_bytes.proofs.Options.{some_on, none_on}
use Rattle.scale_info_passes.proofs.ty.PathPortableFormPass.pass.Goals as goal

pub returns-clause-some : goal.returns-clause-some
returns-clause-some g c =
    some_on c.pass.result
    (λ rest p. visited_into path_of (λ q x s. s) (λ q. no_references q) (λ f q. refl) p) c.pass.ensures.some

pub returns-clause-none : goal.returns-clause-none
returns-clause-none g c =
    none_on c.pass.result (λ n. no_prefix_through (λ v. v.segments) n) c.pass.ensures.none
