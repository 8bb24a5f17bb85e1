use Rattle.scale_info_bytes.proofs.StringAt.{no_text_count, no_text_short}
use Rattle.scale_info_bytes.proofs.Options.{none_is}
use Rattle.scale_info_json_bytes.proofs.Skips.{rest_of_text}
use Rattle.scale_info_json_bytes.proofs.skip.TextSkip.skip.Goals as goal

pub returns-in_err-count-clause-none : goal.returns-in_err-count-clause-none
returns-in_err-count-clause-none c =
    none_is c.from_residual.result (no_text_count _ c.in_err-count.ensures.none)

pub returns-then-bytes-count-clause-none : goal.returns-then-bytes-count-clause-none
returns-then-bytes-count-clause-none c =
    no_text_short c.in_ok-count.count _ _ c.in_ok-count.ensures.some c.if-bytes-count.true

pub returns-clause-some : goal.returns-clause-some
returns-clause-some c = rest_of_text c.in_ok-count.count _ _ c.in_ok-count.ensures.some
