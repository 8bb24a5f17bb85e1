use Rattle.std.proofs.Common.{ap}
use Rattle.scale_info_types.specs.Shapes.{content}
use Rattle.scale_info_types.proofs.Contents.{through, and_same, same_number}
use Rattle.scale_info_types.proofs.Inverses.{portable_content}
use Rattle.scale_info_types.proofs.laws.equal_portable.Goals as goal

pub returns-clause-description : goal.returns-clause-description
returns-clause-description c = λ a b.
    through (c.equal_contents.ensures a b) (portable_content a b)
    (λ e. ap (content (λ symbol. symbol.id) (λ text. text)) e)

pub returns-clause-entry : goal.returns-clause-entry
returns-clause-entry c = λ a b.
    through (and_same _ _ (same_number a.id b.id) (returns-clause-description c a.ty b.ty))
    (λ e. λ i. record { id = e.0 i; ty = e.1 i })
    (λ e. (ap (λ p. p.id) e, ap (λ p. p.ty) e))
