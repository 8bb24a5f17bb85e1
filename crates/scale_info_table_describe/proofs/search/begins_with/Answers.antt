use Rattle.std.proofs.Common.{◌∙◌, ap, drop, sym}
use Rattle.std.proofs.lemmas.List.{nil_from_length}
use Rattle.scale_info_segments.specs.TypePaths.{texts}
use Rattle.scale_info_table_describe.specs.PathSearches.{begins_with}
use Rattle.scale_info_table_describe.proofs.Searched.{none_begins}
use Rattle.scale_info_table_describe.proofs.search.begins_with.Goals as goal

pub returns-in_default : goal.returns-in_default
returns-in_default c =
    let nothing = rw c.in_default.is at c.split_first.ensures.cases in
    sym
    (c.loop-segment.invariant
    ∙ ap (begins_with (texts (drop c.loop-segment.segment-index c.args.segments.now)))
    (nil_from_length c.loop-segment.rest.now nothing)
    ∙ none_begins c.args.segments.now c.loop-segment.segment-index c.loop-segment-test.true)
