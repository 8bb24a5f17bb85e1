use Rattle.std.proofs.Common.{rules, ◌≡◌, ◌∷◌, ◌++◌, [], ◌∙◌, ap, sym, subst, flat_map}
use Rattle.std.proofs.lemmas.Result.{err_from_is_err_and}
use Rattle.std.specs.Vec.Iter.{into_iter_items}
use Rattle.scale_info_catalogue.specs.CatalogueSystems.{catalogue_system}
use Rattle.scale_info_registry.specs.Registrations.{registered, IsRegistration}
use Rattle.scale_info_registry.proofs.Registered.{registers_nothing}
use Rattle.scale_info_registry.proofs.Composed.{one_more, cause_before, taken_front, roots_so_far}
use Rattle.scale_info_registry.proofs.registry.Registry.convert_all.Goals as goal

pub loop-item-init : goal.loop-item-init
loop-item-init g c =
    let S = catalogue_system c.args.catalogue.now in (
      tt,
      tt,
      subst (λ v. IsRegistration S v [] v) c.self.view_is (registers_nothing S (registered c.self.inside.identities c.self.inside.types.items) c.elements-distinct.ensures.distinct),
      search rules,
    )

pub returns-in_err-into_portable-clause-cause : goal.returns-in_err-into_portable-clause-cause
returns-in_err-into_portable-clause-cause g c =
    let S = catalogue_system c.args.catalogue.now in
    let p = err_from_is_err_and c.from_residual.result c.from_residual.ensures.1 in
    let front = taken_front _ c.loop-item.yielded _ c.loop-item.yielded_by in
    let all : c.args.given.items ≡ c.loop-item.yielded ++ c.in-Some.item ∷ into_iter_items c.next.new.self =
    sym c.into_iter-item-iterator.ensures.into_iter_gives.0 ∙ (front ∙ ap (λ xs. c.loop-item.yielded ++ xs) c.in-Some.ensures.steps.0) in
    let parts = roots_so_far g.X.IntoPortable.roots c.args.given.items c.loop-item.yielded (into_iter_items c.next.new.self) c.in-Some.item all in
    rw (p.1, p.2)
    (cause_before S c.args.self.now c.loop-item.self (flat_map g.X.IntoPortable.roots c.loop-item.yielded) (g.X.IntoPortable.roots c.in-Some.item)
    (flat_map g.X.IntoPortable.roots (into_iter_items c.next.new.self)) (flat_map g.X.IntoPortable.roots c.args.given.items)
    c.in_err-into_portable.field-0.0 c.loop-item.invariant.2 parts c.in_err-into_portable.ensures.cause)

pub loop-item-preserved : goal.loop-item-preserved
loop-item-preserved g c =
    let S = catalogue_system c.args.catalogue.now in
    let m =
    one_more g.X.IntoPortable.roots g.X.IntoPortable.replaced S c.args.self.now c.loop-item.self c.into_portable.new.registry c.loop-item.yielded c.loop-item.outputs.items c.push.new.self.items
    c.in-Some.item c.in_ok-into_portable.field-0 (search rules) c.loop-item.invariant.2 c.loop-item.invariant.3 c.in_ok-into_portable.ensures.ok c.in_ok-into_portable.ensures.output
    in
    (tt, tt, m.0, m.1)
