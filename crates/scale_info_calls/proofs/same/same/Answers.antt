use Rattle.std.proofs.Common.{◌∙◌, sym, subst}
use Rattle.scale_info_calls.proofs.Rooms.{given, too_short}
use Rattle.scale_info_calls.specs.SameTypes.{IsSameRefusal, TellsOfInputs}
use Rattle.scale_info_calls.proofs.same.same.Goals as goal

pub returns-clause-ok : goal.returns-clause-ok
returns-clause-ok c =
    let Tells = TellsOfInputs c.args.first.now c.args.id c.args.second.now c.args.other in
    given Tells c.give.result c.as_bytes.result.now c.args.room.now c.give.new.room
    (subst Tells (sym (c.as_bytes.ensures.value ∙ c.as_str.ensures.value)) c.in_ok-text.ensures.ok)
    c.give.ensures.ok

pub returns-clause-err : goal.returns-clause-err
returns-clause-err c =
    let Tells = TellsOfInputs c.args.first.now c.args.id c.args.second.now c.args.other in
    too_short Tells (IsSameRefusal c.args.first.now c.args.id c.args.second.now c.args.other)
    c.give.result c.as_bytes.result.now c.args.room.now
    (subst Tells (sym (c.as_bytes.ensures.value ∙ c.as_str.ensures.value)) c.in_ok-text.ensures.ok)
    c.give.ensures.err
