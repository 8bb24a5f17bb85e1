use Rattle.scale_info_table_prune.proofs.Pruning.{reindexed}
use Rattle.scale_info_table_prune.proofs.indexed.IndexedTable.of.Goals as goal

pub invariant_of-result-2 : goal.invariant_of-result-2
invariant_of-result-2 c =
    let found = c.in_ok-count.ensures.ok in
    (reindexed (found.0, ∣ found.1.encodes ∣₁) c.result-1.given.0 found.1, tt)

pub returns-clause-ok : goal.returns-clause-ok
returns-clause-ok c =
    let found = c.in_ok-count.ensures.ok in
    (reindexed (found.0, ∣ found.1.encodes ∣₁) c.result-1.given.0 found.1).encodes
