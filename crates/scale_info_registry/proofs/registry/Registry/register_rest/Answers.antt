use Rattle.std.proofs.Common.{rules, subst, sym, map}
use Rattle.std.proofs.lemmas.Result.{err_from_is_err_and}
use Rattle.scale_info_numberings.specs.Tables.{ArePlaces}
use Rattle.scale_info_identities.specs.contracts.type_id.TypeIdPartialEq.TheImpl.{ghosts as equals}
use Rattle.scale_info_catalogue.specs.CatalogueSystems.{catalogue_system}
use Rattle.scale_info_catalogue.specs.Discoveries.{nodes_of, roots_of, stacked, IsCause}
use Rattle.scale_info_registry.specs.Registrations.{index_in, registered, IsRegistration}
use Rattle.scale_info_catalogue.proofs.Discovered.{stacked_alone}
use Rattle.scale_info_registry.proofs.Registered.{cut_kept, cut_same, keeps, keeps_itself}
use Rattle.scale_info_registry.proofs.Registered.{root_indices}
use Rattle.scale_info_registry.proofs.registry.Registry.register_rest.Goals as goal

pub returns-in_err-register-clause-cause : goal.returns-in_err-register-clause-cause
returns-in_err-register-clause-cause c =
    let p = err_from_is_err_and c.from_residual-in_err-register.result c.from_residual-in_err-register.ensures.1 in
    let types = c.args.rest.now in
    let e = stacked_alone c.in_ok-pending.pending.items c.in_ok-references_of_types.field-0.items c.new.result.items types c.in_ok-pending.ensures.ok c.new.ensures.items c.in_ok-references_of_types.ensures in
    rw (p.1, p.2) (subst (λ ns. IsCause (catalogue_system c.args.catalogue.now) (nodes_of c.args.self.now.identities) ns c.in_err-register.field-0.0) e c.in_err-register.ensures.cause)

pub returns-in-Ok-clause-ok : goal.returns-in-Ok-clause-ok
returns-in-Ok-clause-ok c =
    let S = catalogue_system c.args.catalogue.now in
    let types = c.args.rest.now in
    let after = c.register.new.self in
    let e = stacked_alone c.in_ok-pending.pending.items c.in_ok-references_of_types.field-0.items c.new.result.items types c.in_ok-pending.ensures.ok c.new.ensures.items c.in_ok-references_of_types.ensures in
    let done : IsRegistration S c.args.self.now (roots_of types) after =
    subst (λ ns. IsRegistration S c.args.self.now ns after) e c.in_ok-register.ensures.ok in
    let places =
    subst (λ v. ArePlaces (nodes_of after.identities) (roots_of types) (map (λ ty. index_in equals.eq v.identities ty.identity) types))
    (sym c.self-2.view_is) (root_indices S c.args.self.now after types done) in
    (map (λ ty. index_in equals.eq c.self-2.inside.identities ty.identity) types, done, places, c.in-Ok.ensures)

pub invariant_of-self : goal.invariant_of-self
invariant_of-self c =
    cut_kept c.self.inside.identities c.self-2.inside.identities c.cut_back.new.identities c.self.inside.types.items c.self-2.inside.types.items c.cut_back.new.types.items
    c.len-known.result (search rules) c.self.invariant c.cut_back.ensures.identities c.cut_back.ensures.types c.args.self.now c.register.new.self c.self.view_is c.self-2.view_is
    (keeps (catalogue_system c.args.catalogue.now) c.args.self.now c.register.new.self (stacked c.in_ok-pending.pending.items) c.in_ok-register.ensures.ok)

pub returns-in-Err-clause-kept : goal.returns-in-Err-clause-kept
returns-in-Err-clause-kept c =
    keeps_itself c.args.self.now (registered c.cut_back.new.identities c.cut_back.new.types.items)
    (cut_same c.self.inside.identities c.self-2.inside.identities c.cut_back.new.identities c.self.inside.types.items c.self-2.inside.types.items c.cut_back.new.types.items
    c.len-known.result (search rules) c.self.invariant c.cut_back.ensures.identities c.cut_back.ensures.types c.args.self.now c.register.new.self c.self.view_is c.self-2.view_is
    (keeps (catalogue_system c.args.catalogue.now) c.args.self.now c.register.new.self (stacked c.in_ok-pending.pending.items) c.in_ok-register.ensures.ok))
