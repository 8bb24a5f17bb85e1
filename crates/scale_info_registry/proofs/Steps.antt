-- Several registrations, one after another.
use Rattle.std.proofs.Common.{◌∙◌, ◌++◌, ◌∷◌, [], List, ap, sym, subst}
use Rattle.std.proofs.Common.{append_assoc, append-nil, option_map}
use Rattle.std.proofs.lemmas.Option.{none-some}
use Rattle.scale_info_identities.specs.TypeIds.{Term}
use Rattle.scale_info_numberings.specs.Systems.{Grows}
use Rattle.scale_info_catalogue.specs.Catalogues.{AreSame, HasOneMore, described}
use Rattle.scale_info_types.specs.MetaDescriptions.{MetaDescription}
use Rattle.scale_info_catalogue.specs.declared.catalogue.Catalogue.{Catalogue}
use Rattle.scale_info_catalogue.specs.CatalogueSystems.{catalogue_entry, catalogue_system}
use Rattle.scale_info_registry.specs.Registrations.{AreSteps, IsRegistration, Registered, Step}
use Rattle.scale_info_registry.specs.Registrations.{last_step, step_roots}
use Rattle.scale_info_registry.proofs.Composed.{registrations_compose_grown}

-- several registrations are one of all their roots
pub all_steps :
    (start : Registered) (done : List Term) (x : Step) (xs : List Step)
    → IsRegistration x.catalogue start done x.registry → AreSteps x xs
    → IsRegistration (last_step x xs).catalogue start (done ++ step_roots xs) (last_step x xs).registry
all_steps start done x [] r s =
    subst (λ roots. IsRegistration x.catalogue start roots x.registry) (sym (append-nil done)) r
all_steps start done x (y ∷ ys) r s =
    subst (λ roots. IsRegistration (last_step y ys).catalogue start roots (last_step y ys).registry)
    (append_assoc done y.roots (step_roots ys))
    (all_steps start (done ++ y.roots) y ys
    (registrations_compose_grown x.catalogue y.catalogue start x.registry y.registry done y.roots s.0 r s.1)
    s.2)

-- a catalogue with one more description has what it had
pub grows_by_one :
    (old new : Catalogue) (t : Term) (d : MetaDescription) → HasOneMore old new t d
    → Grows (catalogue_system old) (catalogue_system new)
grows_by_one old new t d h n e s =
    ap (option_map catalogue_entry)
    (h.others n
    (λ q. none-some e (sym (ap (option_map catalogue_entry) (ap (described old) q ∙ h.absent)) ∙ s)))
    ∙ s

-- a catalogue that stays has what it had
pub grows_by_none :
    (old new : Catalogue) → AreSame old new → Grows (catalogue_system old) (catalogue_system new)
grows_by_none old new h n e s = ap (option_map catalogue_entry) (h.descriptions n) ∙ s
