-- Descriptions that stay in a catalogue, as the registry that they stand for.
use Rattle.std.proofs.Common.{◌≡◌, ◌++◌, ℕ, List, [], length, refl, ap, sym, ◌∙◌, subst, option_map}
use Rattle.std.proofs.Common.{Bor, Some, ◌<◌}
use Rattle.std.proofs.lemmas.List.{length-map}
use Rattle.std.proofs.lemmas.Option.{same_Some, slice_get-map}
use Rattle.scale_info_catalogue.specs.CatalogueSystems.{catalogue_system}
use Rattle.scale_info_catalogue.specs.Catalogues.{described}
use Rattle.scale_info_catalogue.specs.Discoveries.{AreFound, nodes_of}
use Rattle.scale_info_catalogue.specs.declared.catalogue.Catalogue.{Catalogue}
use Rattle.scale_info_identities.specs.TypeIds.{Term, term_of}
use Rattle.scale_info_identities.specs.declared.type_id.TypeId.{TypeId}
use Rattle.scale_info_numberings.specs.Extensions.{IsExtension}
use Rattle.scale_info_numberings.proofs.Places.{element_at}
use Rattle.scale_info_types.specs.MetaDescriptions.{MetaDescription}
use Rattle.scale_info_registry.specs.BorrowedTypes.{all_with_ids_in, with_ids_in}
use Rattle.scale_info_registry.specs.Registrations.{AreDescribed, IsRegistration, registered}
use Rattle.scale_info_registry.proofs.Registered.{is_registration, paired_at, paired_length}

-- what a discovery from nothing found: the identities are all new
abbrev pub IsFoundAfter : Catalogue → List TypeId → List TypeId → List (Bor MetaDescription) → Type 0
IsFoundAfter c old ids found = (more : List TypeId) × (ids ≡ old ++ more) × AreFound c more found

-- then all identities are those found
found_from_none :
    (c : Catalogue) (old ids : List TypeId) (found : List (Bor MetaDescription)) → old ≡ []
    → IsFoundAfter c old ids found → AreFound c ids found
found_from_none c old ids found none h =
    subst (λ xs. AreFound c xs found) (sym (h.1 ∙ ap (λ xs. xs ++ h.0) none)) h.2

-- so there are as many descriptions as identities
pub as_many :
    (c : Catalogue) (old ids : List TypeId) (found : List (Bor MetaDescription)) → old ≡ []
    → IsFoundAfter c old ids found → length found ≡ length ids
as_many c old ids found none h =
    paired_length (λ id d. described c (term_of id) ≡ Some d.now) ids found (found_from_none c old ids found none h)

-- and each description is that of its identity
are_described :
    (c : Catalogue) (ids : List TypeId) (found : List (Bor MetaDescription)) → AreFound c ids found
    → AreDescribed c ids 0 (all_with_ids_in ids found)
are_described c ids found all i id from below at =
    let read : Bor MetaDescription → _ = λ d. with_ids_in ids d.now in
    let within : i < length found = subst (λ n. i < n) (length-map found read) below in
    let d = element_at found i within in
    let p = paired_at (λ id d. described c (term_of id) ≡ Some d.now) ids found i d.0 all d.1 in
    let same : p.0 ≡ id = same_Some p.0 id (sym p.1 ∙ at) in (
      d.0.now,
      ap (λ x. described c (term_of x)) (sym same) ∙ p.2,
      slice_get-map read found i ∙ ap (option_map read) d.1,
    )

-- a discovery from nothing is a registration into an empty registry
pub borrowed_registration :
    (c : Catalogue) (old ids : List TypeId) (roots : List Term) (found : List (Bor MetaDescription))
    → old ≡ [] → IsFoundAfter c old ids found
    → IsExtension (catalogue_system c) (nodes_of old) roots (nodes_of ids)
    → IsRegistration (catalogue_system c) (registered [] []) roots (registered ids (all_with_ids_in ids found))
borrowed_registration c old ids roots found none h x =
    let all = found_from_none c old ids found none h in
    is_registration c [] ids roots [] (all_with_ids_in ids found) refl
    (length-map found (λ d. with_ids_in ids d.now) ∙ as_many c old ids found none h) (ids, refl)
    (all_with_ids_in ids found, refl)
    (subst (λ xs. IsExtension (catalogue_system c) (nodes_of xs) roots (nodes_of ids)) none x)
    (are_described c ids found all)
