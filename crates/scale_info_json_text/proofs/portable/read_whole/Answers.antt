use Rattle.scale_info_json_text.proofs.Stops.{passed_syntax}
use Rattle.scale_info_json_text.proofs.Wholes.{text_read, text_and_more, text_refused}
use Rattle.scale_info_json_text.proofs.portable.read_whole.Goals as goal

pub returns-in_err-found-clause-syntax : goal.returns-in_err-found-clause-syntax
returns-in_err-found-clause-syntax c =
    passed_syntax c.from_residual-in_err-found.result c.in_err-found.field-0.0 c.from_residual-in_err-found.ensures.1
    (λ e. text_refused c.args.text.now _ c.in_ok-reader.ensures.ok e) c.in_err-found.ensures.syntax

pub returns-in-Some-clause-syntax : goal.returns-in-Some-clause-syntax
returns-in-Some-clause-syntax c =
    text_and_more c.args.text.now _ c.in_ok-reader.ensures.ok _ _ _ c.in_ok-found.ensures.ok c.in-Some.ensures.value

pub returns-in-None-clause-ok : goal.returns-in-None-clause-ok
returns-in-None-clause-ok c =
    text_read c.args.text.now _ c.in_ok-reader.ensures.ok _ c.in_ok-found.ensures.ok c.in-None.ensures.value.0
