use Rattle.scale_info_bytes.proofs.Results.{ok_on}
use Rattle.scale_info_json_bytes.proofs.list.ItemsTranscode.transcode.Goals as goal

pub returns-clause-ok : goal.returns-clause-ok
returns-clause-ok g c =
    ok_on c.transcode_list.result
    (λ rest list. record { value = list.values; read = list.read; tokens = list.tokens })
    c.transcode_list.ensures.ok
