use Rattle.std.proofs.Common.{◌≡◌, ◌∙◌, length, ap, sym, subst, refl, ℕ, List, All, Contains}
use Rattle.scale_info_passes.specs.Visits.{renumbered}
use Rattle.scale_info_table_prune.specs.TableIndexes.{AppendsKeptTable}
use Rattle.scale_info_numberings.specs.Tables.{ArePlaces}
use Rattle.scale_info_walk.specs.Walks.{AreNumbers}
use Rattle.scale_info_table_prune.proofs.Pruning.{is_room, offsets_long, one_table}
use Rattle.scale_info_table_prune.proofs.Pruning.{order_few, order_within, reindexed}
use Rattle.scale_info_table_prune.proofs.Renumbering.{is_renumbered}
use Rattle.scale_info_table_prune.proofs.indexed.IndexedTable.renumbered.Goals as goal

pub append_kept-requires-clause-within : goal.append_kept-requires-clause-within
append_kept-requires-clause-within c =
    let same : c.self-2.inside.table.0 ≡ c.args.self.now = c.self-2.view_is ∙ c.in_ok-found.ensures.table in
    order_within c.in_ok-found.ensures.ok _ (offsets_long c.self-2.invariant.0 ∙ ap length same)

pub append_kept-requires-clause-few : goal.append_kept-requires-clause-few
append_kept-requires-clause-few c = order_few c.in_ok-found.ensures.ok

pub invariant_of-self : goal.invariant_of-self
invariant_of-self c =
    let same : c.self-2.inside.table.0 ≡ c.args.self.now = c.self-2.view_is ∙ c.in_ok-found.ensures.table in (
      reindexed c.self-2.inside.table c.self-1.given.0 c.self-2.invariant.0,
      is_room c.in_ok-found.ensures.ok c.self-2.inside.count c.in_ok-found.found
          (sym (ap length same) ∙ c.self-2.invariant.0.long) refl refl,
    )

pub returns-clause-table : goal.returns-clause-table
returns-clause-table c = one_table c.self-1.given.0 c.self-2.inside.table ∙ (c.self-2.view_is ∙ c.in_ok-found.ensures.table)

pub returns-clause-ok : goal.returns-clause-ok
returns-clause-ok c =
    let same : c.self-2.inside.table.0 ≡ c.args.self.now = c.self-2.view_is ∙ c.in_ok-found.ensures.table in
    let kept =
    subst (λ types. AppendsKeptTable types (renumbered c.in_ok-found.found.numbers.items)
    c.in_ok-found.found.order.items c.new-bytes.result.items c.append_kept.new.out.items) same
    (c.in_ok-append_kept.ensures.ok c.self-2.inside.table.0 c.self-2.invariant.0.at_offsets) in
    is_renumbered c.in_ok-found.ensures.ok
    (subst (λ (old : List ℕ). AppendsKeptTable c.args.self.now (renumbered c.in_ok-found.found.numbers.items)
    c.in_ok-found.found.order.items old c.append_kept.new.out.items) c.new-bytes.ensures.items kept)
    (subst (λ (numbers : List ℕ). (order : List ℕ) → AreNumbers order numbers
    → All (λ id. Contains order id) c.args.ids.now
    → ArePlaces order c.args.ids.now c.in_ok-new_ids.new_ids.items) c.deref.ensures.value
    c.in_ok-new_ids.ensures)
