use Rattle.std.proofs.Common.{rules, arith, ◌≢◌, get_or, length}
use Rattle.std.proofs.lemmas.Grind.{common_steps}
use Rattle.std.proofs.lemmas.Option.{slice_get-get_or}
use Rattle.scale_info_table_diff.proofs.NeverPaired.{no_match_at, no_match_long}
use Rattle.scale_info_table_diff.proofs.marks.have_no_match.Goals as goal

pub returns-then-ids-others : goal.returns-then-ids-others
returns-then-ids-others c = λ _ types others are.
    let other : length c.args.ids.now ≢ length c.args.others.now = grind (arith, common_steps, rules) in
    no_match_long types others c.args.ids.now c.args.others.now other

pub returns-then-differ : goal.returns-then-differ
returns-then-differ c = λ _ types others are.
    let ids = c.args.ids.now in
    let other_ids = c.args.others.now in
    let i = c.loop-place.place in
    no_match_at types others ids other_ids i (get_or ids i 0) (get_or other_ids i 0)
    (slice_get-get_or ids i 0 c.loop-place-test.true)
    (slice_get-get_or other_ids i 0 (omega (arith, c.if-ids-others.false)))
    (c.differ.ensures c.if-differ.true types others are)
