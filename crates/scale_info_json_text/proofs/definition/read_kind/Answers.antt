use Rattle.scale_info_json_text.proofs.Trees.{reads_weaker}
use Rattle.scale_info_json_text.proofs.definition.read_kind.Goals as goal

pub returns-in-Some-clause-ok : goal.returns-in-Some-clause-ok
returns-in-Some-clause-ok g c =
    reads_weaker (λ tree p. (c.in-Some.part, p, c.into.ensures)) (rw c.in-Some.is at c.in_ok-part.ensures.ok)

pub returns-in-None-clause-ok : goal.returns-in-None-clause-ok
returns-in-None-clause-ok g c =
    reads_weaker (λ tree p. record { none = λ d m. p.none m.0 m.1 }) (rw c.in-None.is at c.in_ok-part.ensures.ok)
