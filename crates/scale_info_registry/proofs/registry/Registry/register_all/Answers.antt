use Rattle.std.proofs.Common.{rules, ◌≡◌, ◌∙◌, ◌-◌, [], ap, drop, length, map, subst, sym, take}
use Rattle.std.proofs.Common.{append-nil}
use Rattle.std.proofs.lemmas.List.{nil_from_length}
use Rattle.std.proofs.lemmas.Result.{IfErr-weaker, IfOk-weaker}
use Rattle.scale_info_numberings.specs.Tables.{ArePlaces}
use Rattle.scale_info_types.specs.Portable.{Id}
use Rattle.scale_info_catalogue.specs.CatalogueSystems.{catalogue_system}
use Rattle.scale_info_catalogue.specs.Discoveries.{IsCause, nodes_of, roots_of}
use Rattle.scale_info_registry.specs.Registrations.{IsRegistration}
use Rattle.scale_info_registry.proofs.Composed.{FirstKnown, first_known, rest_cause}
use Rattle.scale_info_registry.proofs.Composed.{rest_registered, take_rest}
use Rattle.scale_info_registry.proofs.Registered.{registers_nothing}
use Rattle.scale_info_registry.proofs.registry.Registry.register_all.Goals as goal
use Rattle.scale_info_registry.proofs.registry.Registry.register_all.Goals.{After-len}

-- the types before the first unknown one are known in the registry
first :
    (c : After-len)
    → FirstKnown c.args.self.now c.args.types.now c.len.result (map (λ (s : Id). s.id) c.in_ok-known.known.items)
first c =
    first_known _ c.args.self.now c.args.types.now (length c.in_ok-known.known.items) c.len.result
    (map (λ (s : Id). s.id) c.in_ok-known.known.items) c.self.view_is (search rules) c.elements-distinct.ensures.distinct
    c.in_ok-known.ensures.places

pub returns-then-is_empty-clause-ok : goal.returns-then-is_empty-clause-ok
returns-then-is_empty-clause-ok c =
    let S = catalogue_system c.args.catalogue.now in
    let old = c.args.self.now in
    let types = c.args.types.now in
    let k = c.len.result in
    let ids = map (λ (s : Id). s.id) c.in_ok-known.known.items in
    let known = first (goal.at.returns-then-is_empty-clause-ok c).After-len in
    let short : length (take (length types - k) (drop k types)) ≡ 0 = search rules in
    let none : drop k types ≡ [] = nil_from_length (drop k types) (ap length (sym (take_rest types k)) ∙ short) in
    let made =
    rest_registered S old types k ids known old []
    (subst (λ ts. IsRegistration S old (roots_of ts) old) (sym none) (registers_nothing S old known.distinct))
    (subst (λ ts. ArePlaces (nodes_of old.identities) (roots_of ts) []) (sym none) tt) in
    (made.0, subst (λ ps. ArePlaces (nodes_of old.identities) (roots_of types) ps) (append-nil ids) made.1)

pub returns-clause-ok : goal.returns-clause-ok
returns-clause-ok c =
    let S = catalogue_system c.args.catalogue.now in
    let old = c.args.self.now in
    let new = c.register_rest.new.self in
    let L = nodes_of new.identities in
    let types = c.args.types.now in
    let k = c.len.result in
    let ids = map (λ (s : Id). s.id) c.in_ok-known.known.items in
    let known = first (goal.at.returns-clause-ok c).After-len in
    IfOk-weaker c.register_rest.result _ _
    (λ all h.
    let made =
    rest_registered S old types k ids known new h.0
    (subst (λ ts. IsRegistration S old (roots_of ts) new) (take_rest types k) h.1)
    (subst (λ ts. ArePlaces L (roots_of ts) h.0) (take_rest types k) h.2) in
    (made.0, subst (λ ps. ArePlaces L (roots_of types) ps) (sym h.3) made.1))
    c.register_rest.ensures.ok

pub returns-clause-cause : goal.returns-clause-cause
returns-clause-cause c =
    let S = catalogue_system c.args.catalogue.now in
    let known = first (goal.at.returns-clause-cause c).After-len in
    IfErr-weaker c.register_rest.result _ _
    (λ e h. rest_cause S c.args.self.now c.args.types.now c.len.result _ known e
    (subst (λ ts. IsCause S (nodes_of c.args.self.now.identities) (roots_of ts) e) (take_rest c.args.types.now c.len.result) h))
    c.register_rest.ensures.cause
