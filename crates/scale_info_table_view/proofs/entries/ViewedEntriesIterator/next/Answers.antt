use Rattle.std.proofs.Common.{◌+◌, ◌<◌, ◌∙◌, length, refl, sym, arith}
use Rattle.scale_info_numberings.proofs.Places.{element_at}
use Rattle.scale_info_table_view.proofs.Indexed.{goes_on, indexed_first}
use Rattle.scale_info_table_view.proofs.entries.ViewedEntriesIterator.next.Goals.{in-Ok-Some, in-Err}
use Rattle.scale_info_table_view.proofs.entries.ViewedEntriesIterator.next.Goals as goal

pub returns-clause-steps : goal.returns-clause-steps
returns-clause-steps c =
    let types = c.self.inside.view.now.types in
    let index = c.self.inside.index in
    let inside : index < length types = let end = c.self.invariant.0 in let within = c.if-index-self.false in omega arith in
    elim c.match-entry.branch [
      | in-Ok-Some w ↦
          let there = sym w.in-Ok-Some.ensures ∙ w.in-Ok-Some.field-0-is in
          rw (w.result-is, ← c.self.view_is) (indexed_first types index (index + 1) w.in-Ok-Some.entry there refl)
      | in-Err w ↦
          let first = element_at types index inside in
          rw (w.result-is, ← c.self.view_is) ((index, first.0.ty), indexed_first types index (index + 1) first.0 first.1 refl)
    ]

pub returns-clause-goes : goal.returns-clause-goes
returns-clause-goes c = goes_on _ _ _ _ (λ rest. tt) (returns-clause-steps c)
