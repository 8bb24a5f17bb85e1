use Rattle.std.proofs.Common.{◌≡◌, [], inl, inr, rules, subst}
use Rattle.std.proofs.lemmas.Bool.{cases_Bool}
use Rattle.scale_info.specs.Systems.{Grows}
use Rattle.scale_info.proofs.Iterators.{drained}
use Rattle.scale_info.specs.CatalogueSystems.{catalogue_system}
use Rattle.scale_info.specs.Discoveries.{nodes_of, roots_of}
use Rattle.scale_info.specs.Registrations.{IsRegistration, registered}
use Rattle.example_callers.proofs.register.table_in_two_steps.Goals as goal

pub returns : goal.returns
returns g c =
    let one = c.in_ok-register_types.ensures.ok in
    let two = c.in_ok-register_types-2.ensures.ok in
    let first : one.0 ≡ c.args.first.items = drained one.1.0 c.args.first.items one.0 one.1.1.0 (search rules) one.1.2 in
    let second : two.0 ≡ c.args.second.items = drained two.1.0 c.args.second.items two.0 two.1.1.0 (search rules) two.1.2 in
    let grows : Grows (catalogue_system c.args.catalogue.now) (catalogue_system c.add.new.self) =
    elim (cases_Bool c.in_ok-add.field-0) [
      | inl new ↦ let more = c.in_ok-add.ensures.new new in c.catalogue_grows.ensures.one_more _ _ _ _ more.2
      | inr known ↦ c.catalogue_grows.ensures.same _ _ (c.in_ok-add.ensures.known_same known)
    ] in
    let before = c.register_types.new.self in
    let after = c.register_types-2.new.self in
    let was : IsRegistration (catalogue_system c.args.catalogue.now) (registered [] []) (roots_of c.args.first.items) before =
    subst (λ given. IsRegistration (catalogue_system c.args.catalogue.now) (registered [] []) (roots_of given) before) first
    (subst (λ r. IsRegistration (catalogue_system c.args.catalogue.now) r (roots_of one.0) before) c.new-registry.ensures one.2) in
    let then : IsRegistration (catalogue_system c.add.new.self) before (roots_of c.args.second.items) after =
    subst (λ given. IsRegistration (catalogue_system c.add.new.self) before (roots_of given) after) second two.2 in
    let both = c.registrations_compose.ensures _ _ _ _ _ _ _ grows was then in
    let table =
    c.registered_tables.ensures _ _ after c.in_ok-from_registry.field-0 both c.in_ok-from_registry.ensures.entries
    c.in_ok-from_registry.ensures.long in (
      nodes_of after.identities,
      table.0,
      table.1,
    )
