use Rattle.std.proofs.Common.{rules, ◌≡◌, ◌++◌, ◌∷◌, [], List, ℕ, subst, sym, take, ◌+◌}
use Rattle.scale_info_numberings.specs.Tables.{ArePlaces}
use Rattle.scale_info_table_prune.proofs.Renumbering.{one_more}
use Rattle.scale_info_table_prune.proofs.new_ids.new_ids_of.Goals as goal

pub loop-id-preserved : goal.loop-id-preserved
loop-id-preserved c = λ order dense inside.
    let pushed : c.push.new.self.items ≡ c.loop-id.new_ids.items ++ c.number_of.result ∷ [] = search rules in
    subst (λ (xs : List ℕ). ArePlaces order (take (c.loop-id.id-index + 1) c.args.ids.now) xs) (sym pushed)
    (one_more order c.args.numbers.now c.args.ids.now c.loop-id.new_ids.items c.loop-id.id-index
    c.number_of.result c.loop-id-test.true dense inside c.number_of.ensures
    (c.loop-id.invariant order dense inside))
