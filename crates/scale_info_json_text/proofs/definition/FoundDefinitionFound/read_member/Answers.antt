use Rattle.scale_info_json_text.proofs.Trees.{reads_weaker}
use Rattle.scale_info_json_text.proofs.Definitions.{put_unknown}
use Rattle.scale_info_json_text.proofs.definition.FoundDefinitionFound.read_member.Goals as goal

pub returns-in_ok-pass_value-in-None-clause-read : goal.returns-in_ok-pass_value-in-None-clause-read
returns-in_ok-pass_value-in-None-clause-read c = λ _.
    (tt, reads_weaker (λ tree p ms old. put_unknown c.args.key.now tree ms c.in-None.ensures.none) c.in_ok-pass_value-in-None.ensures.ok)
