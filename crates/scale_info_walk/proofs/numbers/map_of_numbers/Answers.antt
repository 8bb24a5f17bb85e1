use Rattle.std.proofs.Common.{rules, ◌∙◌, Some, get_or, ap}
use Rattle.std.proofs.lemmas.Option.{slice_get-get_or}
use Rattle.std.specs.BTreeMap.{Updates}
use Rattle.std.specs.Ordering.{nat_cmp}
use Rattle.scale_info_walk.proofs.NumberMaps.{map_skips, map_adds, map_all}
use Rattle.scale_info_walk.proofs.numbers.map_of_numbers.Goals as goal

pub loop-old-preserved-then-number : goal.loop-old-preserved-then-number
loop-old-preserved-then-number c =
    let numbers = c.args.numbers.now in
    map_skips numbers c.loop-old.old c.loop-old.new_ids c.loop-old.invariant
    (slice_get-get_or numbers c.loop-old.old 0 c.loop-old-test.true ∙ ap Some c.if-number.true)

pub loop-old-preserved : goal.loop-old-preserved
loop-old-preserved c =
    let numbers = c.args.numbers.now in
    let v = get_or numbers c.loop-old.old 0 in
    let updates : Updates nat_cmp c.loop-old.new_ids c.insert.new.self c.loop-old.old (Some v) = search rules in
    map_adds numbers c.loop-old.old v c.loop-old.new_ids c.insert.new.self c.loop-old.invariant
    (slice_get-get_or numbers c.loop-old.old 0 c.loop-old-test.true) c.if-number.false updates

pub returns : goal.returns
returns c = map_all c.args.numbers.now c.loop-old.old c.loop-old.new_ids c.loop-old-test.false c.loop-old.invariant
