use Rattle.std.proofs.Common.{rules}
use Rattle.std.specs.Fmt.{digits}
use Rattle.serde_json.proofs.OnLiterals.{serde_json_on_literals}
use Rattle.scale_info_json_tree.proofs.laws.example_text.Goals as goal

pub returns : goal.returns
unfolding serde_json_on_literals digits
returns c = search rules
