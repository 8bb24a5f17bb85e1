use Rattle.std.proofs.Common.{◌+◌, ◌*◌, length}
use Rattle.std.specs.Prelude.{⊤}
use Rattle.scale_info_json_text.proofs.Trees.{ItemsTurn, MembersTurn}
use Rattle.scale_info_json_text.proofs.pass.+pass.Given as goal

abbrev pub decreases-pass_items : goal.decreases-pass_items
decreases-pass_items l = 3 * l.depth + 2

abbrev pub decreases-pass_members : goal.decreases-pass_members
decreases-pass_members l = 3 * l.depth + 2

abbrev pub decreases-pass_rest : goal.decreases-pass_rest
decreases-pass_rest l = 3 * l.depth

abbrev pub decreases-pass_value : goal.decreases-pass_value
decreases-pass_value l = 3 * l.depth + 1

abbrev pub invariant-pass_items-items : goal.invariant-pass_items-items
invariant-pass_items-items l = ItemsTurn (λ _. ⊤) l.depth l.initial.reader l.reader

abbrev pub decreases-pass_items-items : goal.decreases-pass_items-items
decreases-pass_items-items l = length l.reader

abbrev pub invariant-pass_members-members : goal.invariant-pass_members-members
invariant-pass_members-members l = MembersTurn (λ _. ⊤) l.depth l.initial.reader l.reader

abbrev pub decreases-pass_members-members : goal.decreases-pass_members-members
decreases-pass_members-members l = length l.reader
