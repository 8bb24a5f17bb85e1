use Rattle.std.proofs.Common.{[], refl}
use Rattle.scale_info_value_visit.specs.EachEvent.{event_of}
use Rattle.scale_info_value_visit.proofs.Visiting.{on_ok_after, within_after}
use Rattle.scale_info_value_visit.proofs.event.EachEvent.pass.Goals as goal

pub returns-clause-ok : goal.returns-clause-ok
returns-clause-ok g c = on_ok_after c.event.result (λ p. (_, p, refl)) c.event.ensures.ok

pub returns-clause-err : goal.returns-clause-err
returns-clause-err g c =
    within_after c.event.result (λ e p. record {
      before = [];
      last = event_of c.args.event;
      now = _;
      parts = refl;
      taken = refl;
      refused = p;
    }) c.event.ensures.err
