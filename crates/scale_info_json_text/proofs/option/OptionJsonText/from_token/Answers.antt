use Rattle.scale_info_json_text.proofs.Leaves.{null_read, not_null_none}
use Rattle.scale_info_json_text.proofs.option.OptionJsonText.from_token.Goals as goal

pub returns-in-Null-clause-ok : goal.returns-in-Null-clause-ok
returns-in-Null-clause-ok g c = null_read c.args.depth c.args.token c.args.source.now.reader c.args.source.now.reader g.T.JsonText.meant c.in-Null.is

pub returns-in-None-clause-ok : goal.returns-in-None-clause-ok
returns-in-None-clause-ok g c =
    not_null_none c.args.depth c.args.token c.args.source.now.reader c.from_token.new.source.reader g.T.JsonText.meant c.in_default.not-Null (rw c.in-None.is at c.in_ok-value.ensures.ok)
