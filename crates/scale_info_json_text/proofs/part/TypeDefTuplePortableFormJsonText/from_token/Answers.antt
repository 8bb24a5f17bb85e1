use Rattle.scale_info_json_text.proofs.Trees.{reads_weaker}
use Rattle.scale_info_json_text.proofs.part.TypeDefTuplePortableFormJsonText.from_token.Goals as goal

pub returns-in-None-clause-ok : goal.returns-in-None-clause-ok
returns-in-None-clause-ok c =
    reads_weaker (λ tree p. record { none = λ v m. p.none v.fields m }) (rw c.in-None.is at c.in_ok-fields.ensures.ok)
