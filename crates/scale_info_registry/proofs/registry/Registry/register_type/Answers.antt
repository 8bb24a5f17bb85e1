use Rattle.std.proofs.Common.{◌≡◌, ◌∷◌, [], Some, slice_get, subst, Contains, sym}
use Rattle.std.proofs.lemmas.Bool.{false≢true}
use Rattle.std.proofs.lemmas.Result.{err_from_is_err_and}
use Rattle.scale_info_identities.specs.TypeIds.{term_of}
use Rattle.scale_info_identities.specs.contracts.type_id.TypeIdPartialEq.TheImpl.{ghosts as equals}
use Rattle.scale_info_catalogue.specs.CatalogueSystems.{catalogue_system}
use Rattle.scale_info_catalogue.specs.Discoveries.{nodes_of, IsCause}
use Rattle.scale_info_registry.specs.Registrations.{registered, IsRegistration, index_in}
use Rattle.scale_info_catalogue.proofs.Terms.{known, known_by_term}
use Rattle.scale_info_registry.proofs.Registered.{registers_known, unknown, root_index}
use Rattle.scale_info_registry.proofs.registry.Registry.register_type.Goals as goal

pub returns-in-Some-clause-ok : goal.returns-in-Some-clause-ok
returns-in-Some-clause-ok c =
    let id = c.type_id.result.now in
    let k = (known c.self.inside.identities id).0 (c.in-Some.number, c.in-Some.ensures.found) in
    subst (λ i. IsRegistration (catalogue_system c.args.catalogue.now) c.args.self.now (term_of i ∷ []) c.args.self.now) c.type_id.ensures
    (subst (λ v. IsRegistration (catalogue_system c.args.catalogue.now) v (term_of id ∷ []) v) c.self.view_is
    (registers_known (catalogue_system c.args.catalogue.now) (registered c.self.inside.identities c.self.inside.types.items) id c.elements-distinct.ensures.distinct k))

pub returns-in-Some-clause-id : goal.returns-in-Some-clause-id
returns-in-Some-clause-id c =
    let id = c.type_id.result.now in
    let p = (known_by_term c.self.inside.identities id c.in-Some.number).0 c.in-Some.ensures.found in
    rw c.from.ensures
    (subst (λ i. slice_get (nodes_of c.args.self.now.identities) c.in-Some.number ≡ Some (term_of i)) c.type_id.ensures
    (subst (λ v. slice_get (nodes_of v.identities) c.in-Some.number ≡ Some (term_of id)) c.self.view_is p))

pub returns-in_err-list_of_one-clause-known : goal.returns-in_err-list_of_one-clause-known
returns-in_err-list_of_one-clause-known c = λ k.
    absurd
    (unknown (registered c.self.inside.identities c.self.inside.types.items) c.args.self.now c.type_id.result.now c.self.view_is (λ h. false≢true (c.in_default.ensures.known.1 h))
    (subst (λ i. Contains (nodes_of c.args.self.now.identities) (term_of i)) (sym c.type_id.ensures) k))

pub returns-in_err-register-clause-known : goal.returns-in_err-register-clause-known
returns-in_err-register-clause-known c = λ k.
    absurd
    (unknown (registered c.self.inside.identities c.self.inside.types.items) c.args.self.now c.type_id.result.now c.self.view_is (λ h. false≢true (c.in_default.ensures.known.1 h))
    (subst (λ i. Contains (nodes_of c.args.self.now.identities) (term_of i)) (sym c.type_id.ensures) k))

pub returns-clause-known : goal.returns-clause-known
returns-clause-known c = λ k.
    absurd
    (unknown (registered c.self.inside.identities c.self.inside.types.items) c.args.self.now c.type_id.result.now c.self.view_is (λ h. false≢true (c.in_default.ensures.known.1 h))
    (subst (λ i. Contains (nodes_of c.args.self.now.identities) (term_of i)) (sym c.type_id.ensures) k))

pub returns-in_err-register-clause-cause : goal.returns-in_err-register-clause-cause
returns-in_err-register-clause-cause c =
    let p = err_from_is_err_and c.from_residual-in_err-register.result c.from_residual-in_err-register.ensures.1 in
    rw (p.1, p.2)
    (subst (λ ns. IsCause (catalogue_system c.args.catalogue.now) (nodes_of c.args.self.now.identities) ns c.in_err-register.field-0.0) c.in_ok-list_of_one.ensures.ok c.in_err-register.ensures.cause)

pub returns-clause-id : goal.returns-clause-id
returns-clause-id c =
    let id = c.args.ty.now.identity in
    let S = catalogue_system c.args.catalogue.now in
    let x = subst (λ ns. IsRegistration S c.args.self.now ns c.register.new.self) c.in_ok-list_of_one.ensures.ok c.in_ok-register.ensures.ok in
    rw c.id.ensures
    (subst (λ v. slice_get (nodes_of c.register.new.self.identities) (index_in equals.eq v.identities id) ≡ Some (term_of id)) (sym c.self-2.view_is)
    (root_index S c.args.self.now c.register.new.self id x))
