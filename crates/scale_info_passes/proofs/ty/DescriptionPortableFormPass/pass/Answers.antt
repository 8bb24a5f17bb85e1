use Rattle.std.proofs.Common.{refl, ap, ◌++◌}
use Rattle.std.proofs.lemmas.List.{append-nil}
use Rattle.scale_info_grammar.specs.Ty.{description_parts}
use Rattle.scale_info_types.specs.References.{parameter_references}
use Rattle.scale_info_bytes.proofs.Steps.{no_prefix_through}
use Rattle.scale_info_passes.proofs.Passes.{visited_into, no_references}
use Rattle.scale_info_bytes.proofs.Options.{some_on, none_on}
use Rattle.scale_info_passes.proofs.ty.DescriptionPortableFormPass.pass.Goals as goal

pub returns-clause-some : goal.returns-clause-some
returns-clause-some g c =
    some_on c.pass.result
    (λ rest p. visited_into (λ q. record { path = q.0; type_params = q.1.0; type_def = q.1.1.0; docs = q.1.1.1 }) (λ q x s. s) (λ q. rw (no_references q.1.1.1) (ap (λ t. parameter_references q.1.0 ++ t) (append-nil _))) (λ f q. refl) p) c.pass.ensures.some

pub returns-clause-none : goal.returns-clause-none
returns-clause-none g c =
    none_on c.pass.result (λ n. no_prefix_through description_parts n) c.pass.ensures.none
