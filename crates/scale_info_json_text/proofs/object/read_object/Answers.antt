use Rattle.std.proofs.Common.{◌∷◌, sym, ap, subst, arith}
use Rattle.json.specs.Token as spec
use Rattle.json.specs.Reads.{token_of}
use Rattle.scale_info_json_text.specs.Readings.{HasNoTree}
use Rattle.scale_info_json_text.proofs.Stops.{passed_syntax}
use Rattle.scale_info_json_text.proofs.Trees.{no_depth, no_object}
use Rattle.scale_info_json_text.proofs.Leaves.{object_kind, kind_of, not_kind}
use Rattle.scale_info_json_text.proofs.Members.{members_read}
use Rattle.scale_info_json_text.proofs.object.read_object.Goals as goal

pub returns-then-depth-eq0-clause-syntax : goal.returns-then-depth-eq0-clause-syntax
returns-then-depth-eq0-clause-syntax g c =
    subst (λ k. HasNoTree c.args.depth (token_of k ∷ c.args.source.now.reader)) (sym c.in-BeginObject.is)
    (no_depth c.args.depth spec.begin_object c.args.source.now.reader (omega arith) tt)

pub returns-in_err-found-clause-syntax : goal.returns-in_err-found-clause-syntax
returns-in_err-found-clause-syntax g c =
    passed_syntax c.from_residual.result c.in_err-found.field-0.0 c.from_residual.ensures.1
    (λ e. subst (λ k. HasNoTree c.args.depth (token_of k ∷ c.args.source.now.reader)) (sym c.in-BeginObject.is)
    (no_object c.args.depth c.args.source.now.reader (omega arith) e))
    c.in_err-found.ensures.syntax

pub returns-in-BeginObject-clause-ok : goal.returns-in-BeginObject-clause-ok
returns-in-BeginObject-clause-ok g c =
    members_read g.T.JsonObject.meant c.args.depth c.args.token c.args.source.now.reader c.read_members.new.source.reader
    c.finish.result c.in-BeginObject.is (omega arith) (λ ms h. c.finish.ensures ms (c.requires.holds _ ms h))
    c.in_ok-found.ensures.ok

pub returns-clause-ok : goal.returns-clause-ok
returns-clause-ok g c =
    not_kind c.args.depth c.args.token c.args.source.now.reader c.pass_rest.new.reader g.T.JsonObject.meant object_kind
    (λ tree v m. ap kind_of (g.met.T.JsonObject.only_objects tree v m).is) c.in_default.not-BeginObject
    c.in_ok-pass_rest.ensures.ok
