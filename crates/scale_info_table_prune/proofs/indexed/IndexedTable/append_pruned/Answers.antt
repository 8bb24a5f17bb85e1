use Rattle.std.proofs.Common.{◌≡◌, ◌∙◌, length, ap, sym, subst, refl}
use Rattle.scale_info_passes.specs.Visits.{renumbered}
use Rattle.scale_info_table_prune.specs.TableIndexes.{AppendsKeptTable}
use Rattle.scale_info_table_prune.proofs.Pruning.{appends_pruned, is_room, offsets_long, one_table}
use Rattle.scale_info_table_prune.proofs.Pruning.{order_few, order_within, reindexed}
use Rattle.scale_info_table_prune.proofs.indexed.IndexedTable.append_pruned.Goals as goal

pub append_kept-requires-clause-within : goal.append_kept-requires-clause-within
append_kept-requires-clause-within c =
    let same : c.self.inside.table.0 ≡ c.args.self.now = c.self.view_is ∙ c.in_ok-found.ensures.table in
    order_within c.in_ok-found.ensures.ok.from _ (offsets_long c.self.invariant.0 ∙ ap length same)

pub append_kept-requires-clause-few : goal.append_kept-requires-clause-few
append_kept-requires-clause-few c = order_few c.in_ok-found.ensures.ok.from

pub invariant_of-self : goal.invariant_of-self
invariant_of-self c =
    let same : c.self.inside.table.0 ≡ c.args.self.now = c.self.view_is ∙ c.in_ok-found.ensures.table in (
      reindexed c.self.inside.table c.self-1.given.0 c.self.invariant.0,
      is_room c.in_ok-found.ensures.ok.from c.self.inside.count c.in_ok-found.found
          (sym (ap length same) ∙ c.self.invariant.0.long) refl refl,
    )

pub returns-clause-table : goal.returns-clause-table
returns-clause-table c = one_table c.self-1.given.0 c.self.inside.table ∙ (c.self.view_is ∙ c.in_ok-found.ensures.table)

pub returns-clause-ok : goal.returns-clause-ok
returns-clause-ok c =
    let same : c.self.inside.table.0 ≡ c.args.self.now = c.self.view_is ∙ c.in_ok-found.ensures.table in
    let kept =
    subst (λ types. AppendsKeptTable types (renumbered c.in_ok-found.found.numbers.items)
    c.in_ok-found.found.order.items c.args.out.now.items c.append_kept.new.out.items) same
    (c.in_ok-append_kept.ensures.ok c.self.inside.table.0 c.self.invariant.0.at_offsets) in
    (c.in_ok-found.found.order.items, appends_pruned c.in_ok-found.ensures.ok kept)
