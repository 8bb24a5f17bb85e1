use Rattle.std.proofs.Common.{◌≡◌, ◌↔◌, ℕ, Bool, List, ap, map, length, slice_get, Some, subst}
use Rattle.std.specs.BTreeMap.{get}
use Rattle.std.specs.Ordering.{nat_cmp}
use Rattle.std.proofs.lemmas.Result.{IfOk-weaker}
use Rattle.scale_info.specs.CatalogueSystems.{catalogue_system}
use Rattle.scale_info.specs.Discoveries.{roots_of}
use Rattle.scale_info.specs.TypeIds.{Term}
use Rattle.scale_info.proofs.Extensions.{one_numbering}
use Rattle.scale_info.specs.Tables.{ArePlaces, IsTable}
use Rattle.scale_info.specs.Pruned.{IsChosen}
use Rattle.scale_info.specs.TypeSystems.{entry_of}
use Rattle.example_callers.proofs.exported.export_chosen.Goals as goal

-- what a filter chose among so many indices it chose among as many
same_choice :
    {F : Type 0} (step : F → ℕ → Bool → F → Type 0) (filter last : F) (chosen : List ℕ) (n m : ℕ)
    → n ≡ m → IsChosen step filter n chosen last → IsChosen step filter m chosen last
same_choice step filter last chosen n m same =
    subst (λ k. IsChosen step filter k chosen last) same

pub returns-clause-ok : goal.returns-clause-ok
returns-clause-ok g c = IfOk-weaker c.export.result _ _ (λ exported x order numbering.
    let S = catalogue_system c.args.catalogue.now in
    let roots = roots_of c.args.types.now in
    let e = x.1 in
    let whole = one_numbering S roots e.order order e.numbering numbering in (
      subst (λ o. ArePlaces o roots exported.ids.items) whole e.places,
      (
        e.chosen,
        e.last,
        e.tops,
        same_choice (goal.F-step g) c.args.filter e.last e.chosen _ _ (ap length whole) e.asked,
        subst (λ o. ArePlaces o e.tops e.chosen) whole e.chosen_types,
        λ kept afresh.
            let part = one_numbering S e.tops e.kept kept e.afresh afresh in (
              (x.0, subst (λ k. IsTable S k (map entry_of x.0.types)) part e.entries, x.2),
              subst (λ o. (old new : ℕ) → (get nat_cmp exported.map old ≡ Some new)
                  ↔ ((t : Term) × (slice_get o old ≡ Some t) × (slice_get kept new ≡ Some t))) whole
                  (subst (λ k. (old new : ℕ) → (get nat_cmp exported.map old ≡ Some new)
                  ↔ ((t : Term) × (slice_get e.order old ≡ Some t) × (slice_get k new ≡ Some t))) part e.indices),
            ),
      ),
    )) c.export.ensures.ok
