use Rattle.std.proofs.Common.{rules}
use Rattle.scale_info_table_dot.proofs.Labels.{plain_character}
use Rattle.scale_info_table_dot.proofs.pieces.append_character.Goals as goal

pub returns-in_default-clause-ok : goal.returns-in_default-clause-ok
returns-in_default-clause-ok c =
    let plain = plain_character c.args.character (search rules) (search rules) in
    rw plain (search rules)
