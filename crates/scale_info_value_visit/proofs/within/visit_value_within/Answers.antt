use Rattle.std.proofs.Common.{◌≡◌, rules, arith, ap}
use Rattle.scale_info_value.specs.Readings.{reading}
use Rattle.scale_info_value_visit.specs.Events.{events}
use Rattle.scale_info_value_visit.specs.Reads.{events_read, read_of}
use Rattle.scale_info_value_visit.specs.Sizes.{values_in}
use Rattle.scale_info_value_visit.proofs.Outcomes.{read_agrees, events_of_value}
use Rattle.scale_info_value_visit.proofs.Sizes.{fits, begins_with_both, failed_with, stopped_with}
use Rattle.scale_info_value_visit.specs.declared.within.Refusal.TheVariants as refusal
use Rattle.scale_info_value_visit.proofs.within.visit_value_within.Goals as goal

pub returns-in-Ok-clause-fits : goal.returns-in-Ok-clause-fits
returns-in-Ok-clause-fits g c = λ value rest e.
    let shown = c.in-Ok.ensures.ok in
    fits (g.T.Definitions.table c.args.table.now) c.args.id _ c.args.limit (reading (g.T.Definitions.table c.args.table.now) c.args.id 1 c.args.input.now)
    shown.value value _ rest shown.read shown.visited.2 e

pub returns-in-Ok-clause-shown : goal.returns-in-Ok-clause-shown
returns-in-Ok-clause-shown g c =
    let table = g.T.Definitions.table c.args.table.now in
    let shown = c.in-Ok.ensures.ok in
    let same : values_in (events_read table c.args.id c.args.input.now) ≡ values_in (events table c.args.id shown.value) =
    ap values_in
    (events_of_value (events table c.args.id) (reading table c.args.id 1 c.args.input.now) (read_of table c.args.id c.args.input.now)
    shown.value _ (read_agrees table c.args.id c.args.input.now) shown.read) in
    let left = shown.visited.2 in
    omega arith

pub returns-in-Err-Failed-clause-err : goal.returns-in-Err-Failed-clause-err
returns-in-Err-Failed-clause-err g c =
    let arm = c.in-Err-Failed in
    let failed_so = failed_with _ _ _ _ _ _ arm.field-0 arm.why arm.field-0-is arm.ensures.err in
    let same = failed_so.visited.0 in
    let v = failed_so.visited.1 in
    let left = failed_so.visited.2 in
    record { failed = record { read = failed_so.read; visited = search rules }; fits = omega arith }

pub returns-in-Err-Stopped-TooLarge-clause-err : goal.returns-in-Err-Stopped-TooLarge-clause-err
returns-in-Err-Stopped-TooLarge-clause-err g c =
    let arm = c.in-Err-Stopped-TooLarge in
    let stops = stopped_with _ _ _ _ _ _ arm.field-0 arm.field-0-0 refusal.TooLarge arm.field-0-is arm.field-0-0-is arm.ensures.err in
    let same = stops.stopped.0 in
    let passed = stops.stopped.1 in
    let v = passed.visited in
    record {
      shown = passed.shown;
      next = passed.next;
      visited = search rules;
      first = begins_with_both stops.first passed.first;
      fits = passed.fits;
      past = passed.past;
    }

pub returns-in-Err-Stopped-Stopped-clause-err : goal.returns-in-Err-Stopped-Stopped-clause-err
returns-in-Err-Stopped-Stopped-clause-err g c =
    let arm = c.in-Err-Stopped-Stopped in
    let stops = stopped_with _ _ _ _ _ _ arm.field-0 arm.field-0-0 (refusal.Stopped arm.e) arm.field-0-is arm.field-0-0-is arm.ensures.err in
    let same = stops.stopped.0 in
    let v = stops.stopped.1.0 in
    record {
      stops = record { shown = stops.shown; stopped = search rules; first = stops.first };
      fits = stops.stopped.1.1;
    }
