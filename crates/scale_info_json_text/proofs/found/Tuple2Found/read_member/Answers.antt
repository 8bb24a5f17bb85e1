use Rattle.std.proofs.Common.{inl, inr, sym, subst, ap₂, ◌∙◌}
use Rattle.std.proofs.lemmas.Result.{IfOk-weaker}
use Rattle.serde_json.specs.Data.{put}
use Rattle.scale_info_json_text.specs.Readings.{HasNoTree}
use Rattle.scale_info_json_text.proofs.Stops.{syntax_weaker}
use Rattle.scale_info_json_text.proofs.Trees.{reads_weaker, reads_from}
use Rattle.scale_info_json_text.proofs.found.Tuple2Found.read_member.Goals as goal

pub returns-then-branch-clause-read : goal.returns-then-branch-clause-read
returns-then-branch-clause-read g c = λ _.
    let p = c.in_ok-read_member.ensures.read c.if-branch.true in
    let other = c.requires.2 c.args.key.now p.0 in
    (inl p.0, reads_weaker (λ tree f ms h. (f ms h.0, g.met.B.Found.others c.args.keys.1 c.args.self.now.1 ms c.args.key.now tree other h.1)) p.1)

pub returns-clause-read : goal.returns-clause-read
returns-clause-read g c =
    let left = c.in_ok-read_member.ensures.left c.if-branch.false in
    let key = c.args.key.now in
    IfOk-weaker c.read_member-2.result _ _
    (λ is_read m e.
    let p = m e in (
      inr p.0,
      reads_from left.2 (λ tree f ms h. (
        subst (λ x. g.A.Found.holds c.args.keys.0 x (put key tree ms)) (sym left.1) (g.met.A.Found.others c.args.keys.0 c.args.self.now.0 ms key tree left.0 h.0),
        f ms h.1,
      )) p.1,
    ))
    c.read_member-2.ensures.read

pub returns-clause-left : goal.returns-clause-left
returns-clause-left g c =
    let left = c.in_ok-read_member.ensures.left c.if-branch.false in
    IfOk-weaker c.read_member-2.result _ _
    (λ is_read m e.
    let p = m e in
    (λ h. elim h [ inl a ↦ left.0 a | inr b ↦ p.0 b ], ap₂ (λ x y. (x, y)) left.1 p.1, p.2 ∙ left.2))
    c.read_member-2.ensures.left

pub returns-clause-syntax : goal.returns-clause-syntax
returns-clause-syntax g c =
    let left = c.in_ok-read_member.ensures.left c.if-branch.false in
    syntax_weaker c.read_member-2.result (λ e. subst (λ ts. HasNoTree c.args.depth ts) left.2 e) c.read_member-2.ensures.syntax
