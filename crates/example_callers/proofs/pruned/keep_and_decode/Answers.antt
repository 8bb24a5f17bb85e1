use Rattle.std.proofs.Common.{rules, Some, ◌≡◌, ◌∙◌, sym}
use Rattle.std.specs.BTreeMap.{get}
use Rattle.std.specs.Ordering.{nat_cmp}
use Rattle.example_callers.proofs.pruned.keep_and_decode.Goals as goal

pub returns : goal.returns
returns c =
    let (chosen, last, asked, pruned) = c.in_ok-new_ids.ensures.ok in
    let known : get nat_cmp c.in_ok-new_ids.new_ids c.args.id ≡ Some c.in-Some.index = search rules in
    let at = (pruned.indices c.args.id c.in-Some.index).0 known in
    let alike = c.reads_alike.ensures c.args.table.now c.retain.new.self pruned.order pruned.table c.in-Some.index c.args.id at 1 c.args.input.now in
    sym alike ∙ c.in_ok-found.ensures.ok
