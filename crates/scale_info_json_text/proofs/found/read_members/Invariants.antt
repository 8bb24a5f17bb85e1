use Rattle.std.proofs.Common.{length}
use Rattle.scale_info_json_text.proofs.Trees.{MembersTurn}
use Rattle.scale_info_json_text.proofs.found.read_members.Given as goal

abbrev pub invariant-members : goal.invariant-members
invariant-members g l = MembersTurn (λ ms. g.F.Found.holds l.keys l.found ms) l.depth l.initial.source.reader l.source.reader

abbrev pub decreases-members : goal.decreases-members
decreases-members g l = length l.source.reader
