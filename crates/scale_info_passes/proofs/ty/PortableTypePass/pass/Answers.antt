use Rattle.std.proofs.Common.{refl}
use Rattle.scale_info_grammar.specs.Ty.{portable_type_parts}
use Rattle.scale_info_bytes.proofs.Steps.{no_prefix_through}
use Rattle.scale_info_grammar.specs.TyLaws.{entry_of}
use Rattle.scale_info_passes.proofs.Passes.{visited_into}
use Rattle.scale_info_bytes.proofs.Options.{some_on, none_on}
use Rattle.scale_info_passes.proofs.ty.PortableTypePass.pass.Goals as goal

pub returns-clause-some : goal.returns-clause-some
returns-clause-some g c =
    some_on c.pass.result
    (λ rest p. visited_into entry_of (λ q x s. s) (λ q. refl) (λ f q. refl) p) c.pass.ensures.some

pub returns-clause-none : goal.returns-clause-none
returns-clause-none g c =
    none_on c.pass.result (λ n. no_prefix_through portable_type_parts n) c.pass.ensures.none
