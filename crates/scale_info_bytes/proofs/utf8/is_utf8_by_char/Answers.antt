use Rattle.scale_info_bytes.proofs.Ascii.{after_ascii, first_ascii}
use Rattle.scale_info_bytes.proofs.utf8.is_utf8_by_char.Goals as goal

pub loop-rest-preserved-then-first-lt128 : goal.loop-rest-preserved-then-first-lt128
loop-rest-preserved-then-first-lt128 c = λ u.
    let rest = c.loop-rest.rest.now in
    c.loop-rest.invariant
    (after_ascii rest 1 (first_ascii rest c.in-len1-up.len_at_least c.if-first-lt128.true)
    (c.after_ascii-rest.ensures.utf8 u))
