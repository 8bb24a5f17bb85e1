use Rattle.std.proofs.Common.{ℕ, List, rules, arith, ◌≡◌, ◌≢◌, Some, slice_get, subst, sym}
use Rattle.std.proofs.lemmas.Grind.{common_steps}
use Rattle.std.proofs.lemmas.Option.{gets}
use Rattle.scale_info_table_diff.proofs.NeverPaired.{contents_differ}
use Rattle.scale_info_table_diff.specs.Differing.{HasReferences}
use Rattle.scale_info_table_diff.proofs.marks.visit.Goals as goal

pub returns-then-ne-clause-mark : goal.returns-then-ne-clause-mark
returns-then-ne-clause-mark c = λ _.
    let types = c.args.old.now.table.now in
    let others = c.args.new.now.table.now in
    let pair = c.in-Some.pair.now in
    let at : slice_get c.args.pairs.now.items.items c.args.number ≡ Some pair =
    grind (arith, common_steps, gets, rules, c.in-Some.ensures.lookup, c.deref.ensures.value) in
    let differ : c.in-Some-2.parts.contents.items ≢ c.in-Some-3.other_parts.contents.items = search rules in (
      pair,
      at,
      contents_differ types others pair.0 pair.1 c.in-Some-2.parts.contents.items c.in-Some-3.other_parts.contents.items
          c.in-Some-2.parts.references.items c.in-Some-3.other_parts.references.items
          (rw c.in-Some-2.is at c.in_ok-parts.ensures)
          (rw c.in-Some-3.is at c.in_ok-other_parts.ensures) differ,
    )

pub returns-clause-edges : goal.returns-clause-edges
returns-clause-edges c = λ all.
    let types = c.args.old.now.table.now in
    let others = c.args.new.now.table.now in
    let pair = c.in-Some.pair.now in
    let at : slice_get c.args.pairs.now.items.items c.args.number ≡ Some pair =
    grind (arith, common_steps, gets, rules, c.in-Some.ensures.lookup, c.deref.ensures.value) in
    c.in_ok-add_edges.ensures.edges types others pair at
    (subst (λ (ids : List ℕ). HasReferences types pair.0 ids) (sym c.deref-2.ensures.value)
    (rw c.in-Some-2.is at c.in_ok-parts.ensures).refers)
    (subst (λ (ids : List ℕ). HasReferences others pair.1 ids) (sym c.deref-3.ensures.value)
    (rw c.in-Some-3.is at c.in_ok-other_parts.ensures).refers)
    all
