use Rattle.std.proofs.Common.{subst}
use Rattle.std.specs.Cmp.Lexicographic.{same_text, other_text}
use Rattle.scale_info_json_text.specs.Definitions.{HoldsDefinition}
use Rattle.scale_info_json_text.proofs.Definitions.{put_again, put_second, put_refused}
use Rattle.scale_info_json_text.proofs.definition.with_member.Goals as goal

pub returns-then-eq : goal.returns-then-eq
returns-then-eq c = λ tree ms m h.
    put_again c.args.known.now c.in-One.first.now tree c.in-One.field-1 c.args.value ms (subst (λ f. HoldsDefinition f ms) c.in-One.is h)
    (same_text c.in-One.first.now c.args.known.now c.if-eq.ensures) m

pub returns-else-eq : goal.returns-else-eq
returns-else-eq c = λ tree ms m h.
    put_second c.args.known.now c.in-One.first.now tree c.in-One.field-1 ms (subst (λ f. HoldsDefinition f ms) c.in-One.is h)
    (other_text c.in-One.first.now c.args.known.now c.if-eq.ensures)

pub returns-in-Refused : goal.returns-in-Refused
returns-in-Refused c = λ tree ms m h.
    put_refused c.args.known.now tree ms (subst (λ f. HoldsDefinition f ms) c.in-Refused.is h)
