use Rattle.std.proofs.Common.{◌≡◌, ◌∙◌, Some, ap, rules}
use Rattle.std.proofs.lemmas.Cmp.{nat_cmp_total}
use Rattle.std.proofs.lemmas.Map.Iter.{btree_map_turn}
use Rattle.std.specs.Map.Iter.{deref_pair}
use Rattle.scale_info_table_diff.proofs.first.id_at.Goals as goal

pub returns-then-at-place : goal.returns-then-at-place
returns-then-at-place c =
    let turn =
    btree_map_turn deref_pair c.loop-id.yielded c.into_iter-id-iterator.result c.loop-id.id-iterator c.next.new.self
    c.next.result (c.in-Some.id, c.in-Some.at) c.loop-id.yielded_by c.in-Some.is c.next.ensures.steps nat_cmp_total
    c.args.places.now (search rules) (search rules) in
    let same : c.in-Some.at.now ≡ c.args.place = search rules in
    turn.1 ∙ ap Some same
