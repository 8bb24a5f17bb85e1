use Rattle.std.proofs.Common.{[], subst, sym}
use Rattle.std.proofs.lemmas.Result.{err_from_is_err_and}
use Rattle.scale_info_catalogue.specs.CatalogueSystems.{catalogue_system}
use Rattle.scale_info_catalogue.specs.Discoveries.{IsCause, nodes_of, roots_of}
use Rattle.scale_info_catalogue.proofs.Discovered.{stacked_alone}
use Rattle.scale_info_numberings.specs.Tables.{ArePlaces}
use Rattle.scale_info_registry.specs.BorrowedTypes.{all_with_ids_in}
use Rattle.scale_info_registry.specs.Registrations.{IsRegistration, registered}
use Rattle.scale_info_registry.proofs.BorrowedTypes.{as_many, borrowed_registration}
use Rattle.scale_info_registry.proofs.Registered.{root_indices}
use Rattle.scale_info_registry.proofs.registry.borrowed.borrow_types.Goals as goal

pub returns-in_err-descriptions-clause-cause : goal.returns-in_err-descriptions-clause-cause
returns-in_err-descriptions-clause-cause c =
    let S = catalogue_system c.args.catalogue.now in
    let types = c.args.types.now in
    let p =
    err_from_is_err_and c.from_residual-in_err-descriptions.result c.from_residual-in_err-descriptions.ensures.1 in
    let e = c.in_err-descriptions.field-0.0 in
    let roots =
    stacked_alone c.in_ok-pending.pending.items c.in_ok-references_of_types.field-0.items c.new.result.items types
    c.in_ok-pending.ensures.ok c.new.ensures.items c.in_ok-references_of_types.ensures in
    rw (p.1, p.2)
    (subst (λ ids. IsCause S (nodes_of ids) (roots_of types) e) c.new-identities.ensures
    (subst (λ ns. IsCause S (nodes_of c.new-identities.result) ns e) roots c.in_err-descriptions.ensures.err))

pub returns-clause-ok : goal.returns-clause-ok
returns-clause-ok c =
    let roots =
    stacked_alone c.in_ok-pending.pending.items c.in_ok-references_of_types.field-0.items c.new.result.items c.args.types.now
    c.in_ok-pending.ensures.ok c.new.ensures.items c.in_ok-references_of_types.ensures in
    subst
    (λ ns.
    IsRegistration (catalogue_system c.args.catalogue.now) (registered [] []) ns
    (registered c.discover.new.identities
    (all_with_ids_in c.discover.new.identities c.in_ok-descriptions.descriptions.items)))
    roots
    (borrowed_registration c.args.catalogue.now c.new-identities.result c.discover.new.identities _
    c.in_ok-descriptions.descriptions.items c.new-identities.ensures c.in_ok-descriptions.ensures.found
    c.in_ok-descriptions.ensures.ok)

pub returns-clause-long : goal.returns-clause-long
returns-clause-long c =
    as_many c.args.catalogue.now c.new-identities.result c.discover.new.identities
    c.in_ok-descriptions.descriptions.items c.new-identities.ensures c.in_ok-descriptions.ensures.found

pub returns-clause-places : goal.returns-clause-places
returns-clause-places c =
    let S = catalogue_system c.args.catalogue.now in
    let ids = c.discover.new.identities in
    let types = c.args.types.now in
    let roots =
    stacked_alone c.in_ok-pending.pending.items c.in_ok-references_of_types.field-0.items c.new.result.items types
    c.in_ok-pending.ensures.ok c.new.ensures.items c.in_ok-references_of_types.ensures in
    let after = registered ids (all_with_ids_in ids c.in_ok-descriptions.descriptions.items) in
    let done : IsRegistration S (registered [] []) (roots_of types) after =
    subst (λ ns. IsRegistration S (registered [] []) ns after) roots
    (borrowed_registration c.args.catalogue.now c.new-identities.result ids _ c.in_ok-descriptions.descriptions.items
    c.new-identities.ensures c.in_ok-descriptions.ensures.found c.in_ok-descriptions.ensures.ok) in
    subst (λ ns. ArePlaces (nodes_of ids) (roots_of types) ns) (sym c.in_ok-ids.ensures)
    (root_indices S (registered [] []) after types done)
