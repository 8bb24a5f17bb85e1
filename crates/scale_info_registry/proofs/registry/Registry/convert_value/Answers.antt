use Rattle.std.proofs.Common.{rules, refl, subst, sym, map, ℕ}
use Rattle.std.proofs.lemmas.Result.{err_from_is_err_and}
use Rattle.scale_info_numberings.specs.Tables.{ArePlaces}
use Rattle.scale_info_identities.specs.contracts.type_id.TypeIdPartialEq.TheImpl.{ghosts as equals}
use Rattle.scale_info_catalogue.specs.CatalogueSystems.{catalogue_system}
use Rattle.scale_info_catalogue.specs.Discoveries.{nodes_of, roots_of, stacked, IsCause}
use Rattle.scale_info_registry.specs.Registrations.{index_in, registered, IsRegistration}
use Rattle.scale_info_types.specs.declared.meta_type.MetaType.{MetaType}
use Rattle.scale_info_catalogue.proofs.Discovered.{stacked_alone}
use Rattle.scale_info_registry.proofs.Registered.{cut_kept, cut_same, keeps, keeps_itself}
use Rattle.scale_info_registry.proofs.Registered.{root_indices}
use Rattle.scale_info_registry.proofs.registry.Registry.convert_value.Goals as goal

pub returns-in_err-register-clause-cause : goal.returns-in_err-register-clause-cause
returns-in_err-register-clause-cause g c =
    let p = err_from_is_err_and c.from_residual-in_err-register.result c.from_residual-in_err-register.ensures.1 in
    let types = g.T.HasTypes.types c.args.value in
    let e = stacked_alone c.in_ok-pending.pending.items c.in_ok-types.field-0.items c.new.result.items types c.in_ok-pending.ensures.ok c.new.ensures.items c.in_ok-types.ensures in
    rw (p.1, p.2) (subst (λ ns. IsCause (catalogue_system c.args.catalogue.now) (nodes_of c.args.self.now.identities) ns c.in_err-register.field-0.0) e c.in_err-register.ensures.cause)

pub returns-in-Ok-clause-ok : goal.returns-in-Ok-clause-ok
returns-in-Ok-clause-ok g c =
    let types = g.T.HasTypes.types c.args.value in
    let e = stacked_alone c.in_ok-pending.pending.items c.in_ok-types.field-0.items c.new.result.items types c.in_ok-pending.ensures.ok c.new.ensures.items c.in_ok-types.ensures in
    subst (λ ns. IsRegistration (catalogue_system c.args.catalogue.now) c.args.self.now ns c.register.new.self) e c.in_ok-register.ensures.ok

pub returns-in-Ok-clause-output : goal.returns-in-Ok-clause-output
returns-in-Ok-clause-output g c =
    let types = g.T.HasTypes.types c.args.value in
    let x =
    root_indices (catalogue_system c.args.catalogue.now) c.args.self.now c.register.new.self types
    (returns-in-Ok-clause-ok g c)
    in
    let id_of : MetaType → ℕ = λ ty. index_in equals.eq c.self-2.inside.identities ty.identity in (
      map id_of types,
      subst
          (λ v.
          ArePlaces (nodes_of c.register.new.self.identities) (roots_of types)
          (map (λ ty. index_in equals.eq v.identities ty.identity) types))
          (sym c.self-2.view_is) x,
      (id_of, c.in-Ok.ensures, refl),
    )

pub invariant_of-self : goal.invariant_of-self
invariant_of-self g c =
    cut_kept c.self.inside.identities c.self-2.inside.identities c.cut_back.new.identities c.self.inside.types.items c.self-2.inside.types.items c.cut_back.new.types.items
    c.len-known.result (search rules) c.self.invariant c.cut_back.ensures.identities c.cut_back.ensures.types c.args.self.now c.register.new.self c.self.view_is c.self-2.view_is
    (keeps (catalogue_system c.args.catalogue.now) c.args.self.now c.register.new.self (stacked c.in_ok-pending.pending.items) c.in_ok-register.ensures.ok)

pub returns-clause-kept : goal.returns-clause-kept
returns-clause-kept g c =
    keeps_itself c.args.self.now (registered c.cut_back.new.identities c.cut_back.new.types.items)
    (cut_same c.self.inside.identities c.self-2.inside.identities c.cut_back.new.identities c.self.inside.types.items c.self-2.inside.types.items c.cut_back.new.types.items
    c.len-known.result (search rules) c.self.invariant c.cut_back.ensures.identities c.cut_back.ensures.types c.args.self.now c.register.new.self c.self.view_is c.self-2.view_is
    (keeps (catalogue_system c.args.catalogue.now) c.args.self.now c.register.new.self (stacked c.in_ok-pending.pending.items) c.in_ok-register.ensures.ok))
