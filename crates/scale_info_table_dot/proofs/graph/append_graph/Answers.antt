use Rattle.std.proofs.Common.{◌≡◌, length, rules, string_bytes}
use Rattle.std.proofs.lemmas.Str.{IsUtf8-string_bytes}
use Rattle.scale_info_table_dot.proofs.Cuts.{cut}
use Rattle.scale_info_walk.proofs.Inside.{inside}
use Rattle.scale_info_table_dot.proofs.graph.append_graph.Goals as goal

pub truncate-requires : goal.truncate-requires
truncate-requires c =
    let old = c.args.out.now in
    let new = c.append_graph_of-appended.new.out in
    let at = cut (string_bytes old) (string_bytes new) (IsUtf8-string_bytes old) (IsUtf8-string_bytes new) c.append_graph_of-appended.ensures.keeps in
    let same : c.len-start.result ≡ length (string_bytes old) = search rules in
    rw same (λ _. (at.0, λ positive. at.1))

pub returns-clause-inside : goal.returns-clause-inside
returns-clause-inside c =
    inside c.args.table.now.types c.args.chosen.now c.in_ok-order.order.items c.in_ok-order.ensures.ok
