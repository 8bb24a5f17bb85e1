use Rattle.std.proofs.Common.{arith, get_or, length, slice_get, subst, Some, sym, ℕ, ◌↔◌, ◌≡◌, ◌≢◌}
use Rattle.std.proofs.Common.{List}
use Rattle.std.proofs.lemmas.List.Elements.{Contains-get_or}
use Rattle.std.proofs.lemmas.Result.{err_from_is_err_and}
use Rattle.std.specs.BTreeMap.{get}
use Rattle.std.specs.Ordering.{nat_cmp}
use Rattle.scale_info_export.specs.BorrowedEntries.{borrowed_entries}
use Rattle.scale_info_export.proofs.BorrowedEntries.{chosen_at, length_borrowed, walk_error}
use Rattle.scale_info_numberings.specs.Numberings.{IsNumbering}
use Rattle.scale_info_references.specs.Conversions.{number_of}
use Rattle.scale_info_table.proofs.Moved.{is_pruned, numbers_agree, order_few}
use Rattle.scale_info_walk.proofs.Visiting.{numbers_within}
use Rattle.scale_info_walk.specs.TypeSystems.{types_system}
use Rattle.scale_info_export.proofs.borrowed.number_kept.Goals as goal

pub returns-in_err-found-clause-cause : goal.returns-in_err-found-clause-cause
returns-in_err-found-clause-cause g c =
    let ids = c.args.borrowed.now.numbers in
    let found = c.args.borrowed.now.descriptions.items in
    let p = err_from_is_err_and c.from_residual-in_err-found.result c.from_residual-in_err-found.ensures.1 in
    let chosen = c.in_ok-chosen.ensures in
    rw (p.1, p.2)
    (walk_error _ c.args.filter chosen.0 (borrowed_entries ids found) (length found) c.in_ok-chosen.chosen.items
    c.deref.result.now c.in_err-found.field-0.0 (sym (length_borrowed ids found))
    (chosen_at _ c.args.filter chosen.0 _ _ c.in_ok-chosen.chosen.items c.len.ensures chosen.1)
    c.deref.ensures.value c.in_err-found.ensures.cause)

pub returns-clause-within : goal.returns-clause-within
returns-clause-within g c k d h =
    let order = c.in_ok-found.found.order.items in
    let numbers = c.in_ok-found.found.numbers.items in
    let count = c.in_ok-found.ensures.count in
    let inside =
    numbers_within order numbers c.in_ok-found.ensures.numbers (get_or order k d) (Contains-get_or order k d h) in
    omega arith

pub returns-clause-short : goal.returns-clause-short
returns-clause-short g c =
    order_few c.in_ok-found.found.order.items c.in_ok-found.found.numbers.items
    c.in_ok-found.ensures.numbers c.in_ok-found.ensures.count c.in_ok-found.ensures.few

pub returns-clause-ok : goal.returns-clause-ok
returns-clause-ok g c =
    let types = borrowed_entries c.args.borrowed.now.numbers c.args.borrowed.now.descriptions.items in
    let chosen = c.in_ok-chosen.ensures in
    let roots = c.in_ok-chosen.chosen.items in
    let order = c.in_ok-found.found.order.items in
    let numbers = c.in_ok-found.found.numbers.items in
    let dense = c.in_ok-found.ensures.numbers in
    let numbering : IsNumbering (types_system types) roots order =
    subst (λ rs. IsNumbering (types_system types) rs order) c.deref.ensures.value c.in_ok-found.ensures.numbering in
    let ids = subst (λ (ns : List ℕ). (old new : ℕ) → (get nat_cmp c.in_ok-map.map old ≡ Some new)
    ↔ ((slice_get ns old ≡ Some new) × (new ≢ 4294967295))) c.deref-2.ensures.value c.in_ok-map.ensures in (
      roots,
      chosen.0,
      chosen_at _ c.args.filter chosen.0 _ _ roots c.len.ensures chosen.1,
      λ kept x.
          is_pruned types roots order numbers (number_of numbers) kept numbering dense (numbers_agree numbers) x
          c.in_ok-map.map
          (order_few order numbers dense c.in_ok-found.ensures.count c.in_ok-found.ensures.few) ids,
    )
