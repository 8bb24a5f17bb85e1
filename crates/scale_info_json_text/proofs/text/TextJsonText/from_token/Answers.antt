use Rattle.std.proofs.Common.{◌∙◌, ap}
use Rattle.scale_info_json_trees.specs.Meaning.{MeansText}
use Rattle.scale_info_json_text.proofs.Leaves.{string_kind, kind_of, not_kind, text_read}
use Rattle.scale_info_json_text.proofs.text.TextJsonText.from_token.Goals as goal

pub returns-in-String-clause-ok : goal.returns-in-String-clause-ok
returns-in-String-clause-ok c =
    text_read c.args.depth c.args.token c.args.source.now.reader c.args.source.now.reader c.in-String.text c.from.result c.in-String.is (c.from.ensures ∙ c.in_ok-from_str.ensures.ok)

pub returns-clause-ok : goal.returns-clause-ok
returns-clause-ok c =
    not_kind c.args.depth c.args.token c.args.source.now.reader c.pass_rest.new.reader MeansText string_kind
    (λ tree v m. ap kind_of m.is) (λ b. c.in_default.not-String b.0 b.1) c.in_ok-pass_rest.ensures.ok
