use Rattle.std.proofs.Common.{ap, map, slice_get, ◌∙◌}
use Rattle.scale_info_value_loaded.proofs.WalkedPart.{loads}
use Rattle.scale_info_value_loaded.proofs.loaded.LoadedTypes.load.Goals as goal

-- what was found and the entries there are loaded
pub returns : goal.returns
returns c =
    let walked = c.in_ok-found.ensures in
    let loaded =
    loads c.args.view.now c.args.ids.now c.in_ok-found.found.order.items
    c.in_ok-found.found.numbers.items c.in_ok-entries.entries.items walked.numbering walked.numbers
    walked.count walked.few
    (c.in_ok-entries.ensures
    ∙ ap (map (λ index. slice_get c.args.view.now.types index)) c.deref.ensures.value) in
    record { part = loaded.part; alike = loaded.alike; within = loaded.within; cause = tt }
