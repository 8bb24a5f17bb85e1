use Rattle.std.proofs.Common.{subst, sym, ◌∙◌}
use Rattle.std.specs.Prelude.{IsUtf8}
use Rattle.scale_info_bytes.proofs.StringAt.{no_text_count, no_text_short, no_text_utf8}
use Rattle.scale_info_bytes.proofs.StringAt.{prefix_text}
use Rattle.scale_info_bytes.proofs.text.decode_str.Goals as goal

pub returns-in_default-clause-none : goal.returns-in_default-clause-none
returns-in_default-clause-none c = no_text_count _ c.in_default.ensures.none

pub returns-then-rest-count-clause-none : goal.returns-then-rest-count-clause-none
returns-then-rest-count-clause-none c =
    no_text_short c.in-Some.count _ _ c.in-Some.ensures.some c.if-rest-count.true

pub returns-in-Ok-clause-some : goal.returns-in-Ok-clause-some
returns-in-Ok-clause-some c =
    let same = c.in-Ok.ensures.cases.0 in
    prefix_text c.in-Some.count c.in-Ok.text.now _ _ _ c.in-Some.ensures.some
    c.if-rest-count.false (same ∙ c.split_at.ensures.front) c.split_at.ensures.back
    (subst IsUtf8 (sym same) c.in-Ok.ensures.cases.1)

pub returns-in-Err-clause-none : goal.returns-in-Err-clause-none
returns-in-Err-clause-none c =
    no_text_utf8 c.in-Some.count _ _ c.in-Some.ensures.some
    (subst (λ t. IsUtf8 t → ⊥) c.split_at.ensures.front c.in-Err.ensures.cases.0)
