use Rattle.std.proofs.Common.{◌≤◌, ◌-◌, ◌∙◌, ap, arith, drop, length, sym}
use Rattle.std.proofs.lemmas.List.{length-drop, take_all}
use Rattle.scale_info_segments.specs.TypePaths.{texts}
use Rattle.scale_info_table_describe.specs.PathSearches.{begins_with}
use Rattle.scale_info_table_describe.proofs.Searched.{one_further}
use Rattle.scale_info_table_describe.proofs.search.stands_in.Goals as goal

pub loop-start-preserved : goal.loop-start-preserved
loop-start-preserved c =
    let path = c.args.path.now in
    let rest = drop c.loop-start.start path in
    let whole : length rest ≤ length path - c.loop-start.start =
    omega (arith, length-drop c.loop-start.start path) in
    c.loop-start.invariant
    ∙ one_further (texts c.args.segments.now) path c.loop-start.start c.loop-start-test.true
    (ap (begins_with (texts c.args.segments.now)) (sym (take_all _ rest whole))
    ∙ sym c.begins_with.ensures ∙ c.if-begins_with.false)
