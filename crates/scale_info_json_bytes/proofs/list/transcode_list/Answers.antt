use Rattle.scale_info_bytes.proofs.Errors.{passed_malformed}
use Rattle.scale_info_bytes.proofs.Lists.{no_count, no_items_after}
use Rattle.scale_info_json_bytes.proofs.Tokens.{whole_list}
use Rattle.scale_info_json_bytes.proofs.list.transcode_list.Goals as goal

pub returns-in_err-rest-in-Some-clause-malformed :
    goal.returns-in_err-rest-in-Some-clause-malformed
returns-in_err-rest-in-Some-clause-malformed g c =
    passed_malformed c.from_residual-in_err-rest-in-Some.result c.in_err-rest-in-Some.field-0.0
    c.from_residual-in_err-rest-in-Some.ensures.1
    (no_items_after g.T.Transcode.encodes _ _ _ c.in-Some.ensures.some)
    c.in_err-rest-in-Some.ensures.malformed

pub returns-in_ok-end_array-in-Some-clause-ok : goal.returns-in_ok-end_array-in-Some-clause-ok
returns-in_ok-end_array-in-Some-clause-ok g c =
    whole_list g.T.Transcode.encodes g.T.Transcode.written c.in-Some.count _ _ _ _ _ _ _
    c.in-Some.ensures.some c.in_ok-rest-in-Some.ensures.ok c.in_ok-begin_array-in-Some.ensures.ok
    c.in_ok-end_array-in-Some.ensures.ok

pub returns-in-None-clause-malformed : goal.returns-in-None-clause-malformed
returns-in-None-clause-malformed g c = no_count g.T.Transcode.encodes _ c.in-None.ensures.none
