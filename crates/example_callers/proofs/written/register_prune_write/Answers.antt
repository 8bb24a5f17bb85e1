use Rattle.std.proofs.Common.{rules, ◌≡◌, ◌∙◌, ◌∷◌, ◌++◌, [], ap, append-nil, get_or, ◌+◌, length}
use Rattle.std.proofs.Common.{map, refl}
use Rattle.std.proofs.Common.{subst, sym, take}
use Rattle.std.proofs.lemmas.List.{map-append, take_all, take_more}
use Rattle.scale_info.specs.Headline.{AreAccepted, History, IsTableOf, IsWritten, Pruning}
use Rattle.scale_info.specs.Headline.{registry_of}
use Rattle.scale_info.specs.CatalogueSystems.{catalogue_system}
use Rattle.scale_info.specs.Discoveries.{roots_of}
use Rattle.scale_info.specs.Registrations.{IsRegistration, registered, step_roots}
use Rattle.scale_info.proofs.Interned.{length_numbered}
use Rattle.scale_info.specs.MetaDescriptions.{type_term}
use Rattle.example_callers.proofs.written.register_prune_write.Goals as goal

pub loop-ty-preserved : goal.loop-ty-preserved
loop-ty-preserved g c =
    let S = catalogue_system c.args.catalogue.now in
    let others = c.args.others.now in
    let ty = c.ty-item.result in
    let first = type_term c.args.first.now in
    let here : ty ≡ get_or others c.loop-ty.ty-index ty = search rules in
    let inside = take_more others c.loop-ty.ty-index ty (search rules) in
    let more : roots_of (take c.loop-ty.ty-index others) ++ type_term ty ∷ [] ≡ roots_of (take (c.loop-ty.ty-index + 1) others) =
    sym (ap (map type_term) (inside ∙ ap (λ t. take c.loop-ty.ty-index others ++ t ∷ []) (sym here))
    ∙ map-append type_term (take c.loop-ty.ty-index others) (ty ∷ [])) in
    subst (λ rs. IsRegistration S (registered [] []) (first ∷ rs) c.register_type-in-loop-ty.new.self) more
    (c.registrations_compose.ensures S S (registered [] []) c.loop-ty.registry c.register_type-in-loop-ty.new.self
    (first ∷ roots_of (take c.loop-ty.ty-index others)) (type_term ty ∷ []) (λ n d at. at) c.loop-ty.invariant
    c.in_ok-register_type-2.ensures.ok)

pub returns : goal.returns
returns g c =
    let S = catalogue_system c.args.catalogue.now in
    let others = c.args.others.now in
    let first = type_term c.args.first.now in
    let h : History =
    record {
      first =
          record {
            catalogue = S;
            roots = first ∷ roots_of (take c.loop-ty.ty-index others);
            registry = c.loop-ty.registry;
          };
      later = [];
    } in
    let accepted : AreAccepted h = record { begins = c.loop-ty.invariant; steps = tt } in
    let (chosen, last, asked, pruned) = c.in_ok-new_ids.ensures.ok in
    let appended = c.in_ok-encode.ensures.ok in
    let p : Pruning =
    record {
      whole = c.in_ok-table.table;
      chosen = chosen;
      new_ids = c.in_ok-new_ids.new_ids;
      kept = c.retain.new.self;
      bytes = appended.encoding;
    } in
    let types = c.loop-ty.registry.types in
    let long : length types ≡ length c.loop-ty.registry.identities =
    sym (length_numbered 0 types) ∙ ap length (sym c.in_ok-table.ensures.entries) ∙ c.in_ok-table.ensures.long in
    let is : IsTableOf (registry_of h) p.whole = (c.in_ok-table.ensures.entries, long) in
    let written : IsWritten p = (pruned, appended.encodes) in
    let chosen_types = c.headline.ensures.chosen_types h p accepted is written in
    let numbered = c.headline.ensures.one_numbering h p chosen_types.0 accepted is written chosen_types.1 in
    let all : take c.loop-ty.ty-index others ≡ others = take_all c.loop-ty.ty-index others (search rules) in
    let roots : step_roots (h.first ∷ h.later) ≡ first ∷ roots_of others =
    append-nil (first ∷ roots_of (take c.loop-ty.ty-index others)) ∙ ap (λ ts. first ∷ roots_of ts) all in (
      h,
      p,
      chosen_types.0,
      numbered.0,
      accepted,
      refl,
      roots,
      is,
      written,
      refl,
      appended.parts,
      (c.headline.ensures.only_text p written).0,
      chosen_types.1,
      numbered.1,
      numbered.2,
      c.headline.ensures.reached_exactly S chosen_types.0 numbered.0 numbered.1,
    )
