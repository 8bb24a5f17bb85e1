use Rattle.scale_info_value.proofs.Texts.{text_decoded, text_failed}
use Rattle.scale_info_value.proofs.primitive.text.Goals as goal

pub returns-in-Ok-clause-ok : goal.returns-in-Ok-clause-ok
returns-in-Ok-clause-ok c =
    text_decoded c.args.input.now c.in_ok-count.rest.now c.in_ok-all.all.now c.in_ok-all.after.now c.in_ok-count.count
    c.in-Ok.text.now
    c.in_ok-count.ensures.ok c.in_ok-all.ensures.ok c.in-Ok.ensures.cases.1 c.in-Ok.ensures.cases.0

pub returns-in-Err-clause-err : goal.returns-in-Err-clause-err
returns-in-Err-clause-err c =
    text_failed c.args.input.now c.in_ok-count.rest.now c.in_ok-all.all.now c.in_ok-all.after.now c.in_ok-count.count
    c.in_ok-count.ensures.ok c.in_ok-all.ensures.ok c.in-Err.ensures.cases.0
