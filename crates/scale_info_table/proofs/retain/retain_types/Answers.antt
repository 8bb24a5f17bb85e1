use Rattle.std.proofs.Common.{arith, Bool, [], ◌≢◌, ◌↔◌, slice_get, ◌≡◌, ℕ, List, Some, length}
use Rattle.std.proofs.Common.{subst, get_or}
use Rattle.std.proofs.Common.{ap}
use Rattle.std.proofs.lemmas.List.Elements.{Contains-get_or}
use Rattle.std.proofs.lemmas.Result.{err_from_is_err_and}
use Rattle.scale_info_walk.proofs.Visiting.{numbers_within}
use Rattle.scale_info_table.proofs.Moved.{is_pruned, numbers_agree, order_few}
use Rattle.scale_info_references.specs.Conversions.{number_of}
use Rattle.scale_info_walk.specs.Kept.{AreKept}
use Rattle.scale_info_table.specs.Pruned.{IsChosen, IsRetainError}
use Rattle.scale_info_walk.specs.TypeSystems.{types_system}
use Rattle.scale_info_walk.specs.Walks.{IsWalkError}
use Rattle.scale_info_walk.specs.declared.walk.RetainError.{RetainError}
use Rattle.scale_info_walk.specs.declared.walk.RetainError.TheVariants.{Dangling, TooManyTypes}
use Rattle.scale_info_walk.specs.declared.walk.RetainError.TheVariants.{Memory}
use Rattle.scale_info_numberings.specs.Numberings.{IsNumbering}
use Rattle.scale_info_numberings.specs.Systems.{IsFirstOutside}
use Rattle.scale_info_types.specs.declared.ty.PortableType.{PortableType}
use Rattle.std.specs.BTreeMap.{get}
use Rattle.std.specs.Ordering.{nat_cmp}
use Rattle.scale_info_table.proofs.retain.retain_types.Goals as goal

-- the walk's error is that of the chosen ids
retain_error :
    {F : Type 0} (step : F → ℕ → Bool → F → Type 0) (first : F) (types : List PortableType) (chosen roots : List ℕ) (last : F)
    (e : RetainError)
    → IsChosen step first (length types) chosen last → roots ≡ chosen
    → IsWalkError (types_system types) (length types) [] roots e → IsRetainError step first types e
retain_error step first types chosen roots last (Dangling id) x same c =
    (chosen, last, x, subst (λ (rs : List ℕ). IsFirstOutside (types_system types) [] rs id) same c.0, c.1)
retain_error step first types chosen roots last TooManyTypes x same c = c
retain_error step first types chosen roots last Memory x same c = tt

-- the same ids are chosen, where the count is the same
chosen_of :
    {F : Type 0} (step : F → ℕ → Bool → F → Type 0) (first : F) (n count : ℕ) (chosen : List ℕ) (last : F)
    → n ≡ count → IsChosen step first n chosen last → IsChosen step first count chosen last
chosen_of step first n count chosen last e x = subst (λ (m : ℕ). IsChosen step first m chosen last) e x

pub returns-in_err-found-clause-cause : goal.returns-in_err-found-clause-cause
returns-in_err-found-clause-cause g c =
    let p = err_from_is_err_and c.from_residual-in_err-found.result c.from_residual-in_err-found.ensures.1 in
    let chosen = c.in_ok-chosen.ensures in
    let e = c.in_err-found.field-0.0 in
    let cause : IsWalkError (types_system c.args.types.now) (length c.args.types.now) [] c.deref.result.now e =
    subst (λ (ts : List PortableType). IsWalkError (types_system ts) (length ts) [] c.deref.result.now e) c.as_slice.ensures c.in_err-found.ensures.cause in
    rw (p.1, p.2)
    (retain_error _ c.args.filter c.args.types.now c.in_ok-chosen.chosen.items c.deref.result.now chosen.0 e
    (chosen_of _ c.args.filter c.len-2.result (length c.args.types.now) c.in_ok-chosen.chosen.items chosen.0 c.len-2.ensures chosen.1)
    c.deref.ensures.value cause)

pub keep_entries-requires-clause-within : goal.keep_entries-requires-clause-within
keep_entries-requires-clause-within g c k d h =
    let order = c.in_ok-found.found.order.items in
    let same : c.deref-3.result.now ≡ order = c.deref-3.ensures.value in
    let count = c.in_ok-found.ensures.count in
    let slice : length c.as_slice.result.now ≡ length c.args.types.now = ap length c.as_slice.ensures in
    let inside = numbers_within order c.in_ok-found.found.numbers.items c.in_ok-found.ensures.numbers (get_or order k d) (Contains-get_or order k d (rw same at h)) in
    rw same (omega arith)

pub keep_entries-requires-clause-few : goal.keep_entries-requires-clause-few
keep_entries-requires-clause-few g c =
    let order = c.in_ok-found.found.order.items in
    let same : c.deref-3.result.now ≡ order = c.deref-3.ensures.value in
    rw same
    (order_few order c.in_ok-found.found.numbers.items c.in_ok-found.ensures.numbers
    c.in_ok-found.ensures.count c.in_ok-found.ensures.few)

pub returns-clause-ok : goal.returns-clause-ok
returns-clause-ok g c =
    let types = c.args.types.now in
    let now = c.keep_entries.new.types in
    let chosen = c.in_ok-chosen.ensures in
    let order = c.in_ok-found.found.order.items in
    let numbers = c.in_ok-found.found.numbers.items in
    let dense = c.in_ok-found.ensures.numbers in
    let walked : IsNumbering (types_system types) c.deref.result.now order =
    subst (λ (ts : List PortableType). IsNumbering (types_system ts) c.deref.result.now order) c.as_slice.ensures c.in_ok-found.ensures.numbering in
    let numbering : IsNumbering (types_system types) c.in_ok-chosen.chosen.items order =
    subst (λ (rs : List ℕ). IsNumbering (types_system types) rs order) c.deref.ensures.value walked in
    let kept : AreKept types order (number_of numbers) now =
    subst (λ (ns : List ℕ). AreKept types order (number_of ns) now) c.deref-4.ensures.value
    (subst (λ (os : List ℕ). AreKept types os (number_of c.deref-4.result.now) now) c.deref-3.ensures.value c.in_ok-keep_entries.ensures.ok) in
    let ids = subst (λ (ns : List ℕ). (old new : ℕ) → (get nat_cmp c.in_ok-new_ids.new_ids old ≡ Some new)
    ↔ ((slice_get ns old ≡ Some new) × (new ≢ 4294967295))) c.deref-2.ensures.value c.in_ok-new_ids.ensures in (
      c.in_ok-chosen.chosen.items,
      chosen.0,
      chosen_of _ c.args.filter c.len-2.result (length types) c.in_ok-chosen.chosen.items chosen.0 c.len-2.ensures chosen.1,
      is_pruned types c.in_ok-chosen.chosen.items order numbers (number_of numbers) now numbering dense (numbers_agree numbers) kept
          c.in_ok-new_ids.new_ids
          (order_few order numbers dense c.in_ok-found.ensures.count c.in_ok-found.ensures.few) ids,
    )
