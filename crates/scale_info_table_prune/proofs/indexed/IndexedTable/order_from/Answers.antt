use Rattle.std.proofs.Common.{◌≡◌, ◌∙◌, ◌++◌, List, ℕ, length, ap, sym, subst, refl}
use Rattle.scale_info_table_prune.specs.Prunes.{IsOrderFrom}
use Rattle.scale_info_table_prune.proofs.Pruning.{is_room, one_table, reindexed}
use Rattle.scale_info_table_prune.proofs.indexed.IndexedTable.order_from.Goals as goal

pub invariant_of-self : goal.invariant_of-self
invariant_of-self c =
    let same : c.self.inside.table.0 ≡ c.args.self.now = c.self.view_is ∙ c.in_ok-found.ensures.table in (
      reindexed c.self.inside.table c.self-1.given.0 c.self.invariant.0,
      is_room c.in_ok-found.ensures.ok.from c.self.inside.count c.in_ok-found.found
          (sym (ap length same) ∙ c.self.invariant.0.long) refl refl,
    )

pub returns-clause-table : goal.returns-clause-table
returns-clause-table c = one_table c.self-1.given.0 c.self.inside.table ∙ (c.self.view_is ∙ c.in_ok-found.ensures.table)
