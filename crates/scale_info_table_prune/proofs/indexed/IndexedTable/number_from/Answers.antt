use Rattle.std.proofs.Common.{rules, arith, ◌≡◌, ◌<◌, ◌∙◌, length, ap, sym, subst}
use Rattle.scale_info_walk.specs.Walks.{IsRoom}
use Rattle.scale_info_table_prune.specs.Prunes.{IsNumberedFrom, LeadsOutside}
use Rattle.scale_info_table_prune.proofs.Pruning.{leads_outside_at, numbered_at, one_table, reindexed}
use Rattle.scale_info_table_prune.proofs.Pruning.{starts_count, starts_few}
use Rattle.scale_info_table_prune.proofs.indexed.IndexedTable.number_from.Goals as goal
use Rattle.scale_info_table_prune.proofs.indexed.IndexedTable.number_from.Goals.{in-Ok, in-Err-Dangling, in-Err-Memory}

pub number_references_in-requires : goal.number_references_in-requires
number_references_in-requires c =
    let long : length c.deref.result.now ≡ c.self.inside.count =
    ap length c.deref.ensures.value ∙ starts_count c.self.invariant.0 in
    subst (λ n. IsRoom n c.take-room.result) (sym long)
    (subst (λ room. IsRoom c.self.inside.count room) (sym c.take-room.ensures.value) c.self.invariant.1)

pub unreachable-requires : goal.unreachable-requires
unreachable-requires c =
    let few = starts_few c.self.invariant.0 in
    let long = ap length c.deref.ensures.value in
    let many : 4294967295 < length c.deref.result.now =
    rw c.in-Err-TooManyTypes.field-0-is at c.in-Err-TooManyTypes.ensures.cause in
    omega arith

pub invariant_of-self : goal.invariant_of-self
invariant_of-self c =
    let none : IsRoom c.self.inside.count c.take-room.new.self = search rules in
    (reindexed c.self.inside.table c.self-1.given.0 c.self.invariant.0, none)

pub returns-clause-ok : goal.returns-clause-ok
returns-clause-ok c =
    elim c.match-number_references_in.branch [
      | in-Ok w ↦
          rw w.result-is
          (subst (λ types. IsNumberedFrom types c.args.roots.now w.in-Ok.found.order.items w.in-Ok.found.numbers.items)
          c.self.view_is
          (numbered_at c.self.invariant.0 w.in-Ok.found c.deref.ensures.value c.deref-2.ensures.value w.in-Ok.ensures.ok))
      | in-Err-Dangling w ↦ rw w.result-is tt
      | in-Err-Memory w ↦ rw w.result-is tt
    ]

pub returns-clause-cause : goal.returns-clause-cause
returns-clause-cause c =
    elim c.match-number_references_in.branch [
      | in-Ok w ↦ rw w.result-is tt
      | in-Err-Dangling w ↦
          let outside = rw w.in-Err-Dangling.field-0-is at w.in-Err-Dangling.ensures.cause in
          rw w.result-is
          (subst (λ types. LeadsOutside types c.args.roots.now w.in-Err-Dangling.id) c.self.view_is
          (leads_outside_at c.self.invariant.0 c.deref.ensures.value c.deref-2.ensures.value outside.0 outside.1))
      | in-Err-Memory w ↦ rw w.result-is tt
    ]

pub returns-clause-table : goal.returns-clause-table
returns-clause-table c = one_table c.self-1.given.0 c.self.inside.table ∙ c.self.view_is
