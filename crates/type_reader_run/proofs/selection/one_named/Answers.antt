use Rattle.std.proofs.Common.{◌≤◌, length, arith}
use Rattle.type_reader_run.proofs.Selections.{one_at_least, only_one}
use Rattle.type_reader_run.proofs.selection.one_named.Goals as goal

pub index-requires : goal.index-requires
index-requires c =
    let ids = c.in_ok-ids.ids.items in
    omega
    (arith, one_at_least c.args.table.now.types c.args.text.now ids c.in_ok-ids.ensures.ok)

pub returns-clause-ok : goal.returns-clause-ok
returns-clause-ok c =
    let types = c.args.table.now.types in
    let ids = c.in_ok-ids.ids.items in
    let some = one_at_least types c.args.text.now ids c.in_ok-ids.ensures.ok in
    let few : length ids ≤ 1 = omega arith in
    only_one types c.args.text.now ids c.index.result.now c.in_ok-ids.ensures.ok few
    c.index.ensures
