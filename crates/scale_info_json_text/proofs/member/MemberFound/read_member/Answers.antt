use Rattle.std.proofs.Common.{rules}
use Rattle.std.specs.Cmp.Lexicographic.{same_text, other_text}
use Rattle.scale_info_json_text.proofs.Trees.{reads_weaker}
use Rattle.scale_info_json_text.proofs.Members.{put_here}
use Rattle.scale_info_json_text.proofs.member.MemberFound.read_member.Goals as goal

pub returns-then-eq-clause-read : goal.returns-then-eq-clause-read
returns-then-eq-clause-read g c = λ _.
    let key = c.args.key.now in
    let wanted = c.args.wanted.now in
    let is = same_text key wanted c.if-eq.ensures in
    (is, reads_weaker (λ tree p ms old. put_here g.T.JsonText.meant wanted key tree ms c.read_under.new.found is p) c.in_ok-read_under.ensures.ok)

pub returns-clause-left : goal.returns-clause-left
returns-clause-left g c = λ _. (other_text c.args.key.now c.args.wanted.now c.if-eq.ensures, search rules, search rules)
