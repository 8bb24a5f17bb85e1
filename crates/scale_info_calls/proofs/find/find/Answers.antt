use Rattle.std.proofs.Common.{sym, subst}
use Rattle.scale_info_calls.proofs.Rooms.{given, too_short}
use Rattle.scale_info_calls.specs.Types.{AreFound, IsFindRefusal}
use Rattle.scale_info_calls.proofs.find.find.Goals as goal

pub returns-clause-ok : goal.returns-clause-ok
returns-clause-ok c =
    given (AreFound c.args.input.now c.args.path.now) c.give.result c.as_slice.result.now
    c.args.room.now c.give.new.room
    (subst (AreFound c.args.input.now c.args.path.now) (sym c.as_slice.ensures.value) c.in_ok-ids.ensures.ok)
    c.give.ensures.ok

pub returns-clause-err : goal.returns-clause-err
returns-clause-err c =
    too_short (AreFound c.args.input.now c.args.path.now)
    (IsFindRefusal c.args.input.now c.args.path.now) c.give.result c.as_slice.result.now
    c.args.room.now
    (subst (AreFound c.args.input.now c.args.path.now) (sym c.as_slice.ensures.value) c.in_ok-ids.ensures.ok)
    c.give.ensures.err
