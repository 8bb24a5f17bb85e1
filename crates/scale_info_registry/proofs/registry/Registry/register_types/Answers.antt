use Rattle.std.proofs.Common.{inr, map, ℕ, subst}
use Rattle.std.proofs.lemmas.Result.{IfErr-weaker, IfOk-weaker}
use Rattle.scale_info_numberings.specs.Tables.{ArePlaces}
use Rattle.scale_info_types.proofs.Iterators.{gives_all}
use Rattle.scale_info_types.specs.Portable.{Id}
use Rattle.scale_info_catalogue.specs.CatalogueSystems.{catalogue_system}
use Rattle.scale_info_catalogue.specs.Discoveries.{IsCause, nodes_of, roots_of}
use Rattle.scale_info_registry.specs.Registrations.{IsRegistration}
use Rattle.scale_info_registry.proofs.registry.Registry.register_types.Goals as goal

pub returns-clause-ok : goal.returns-clause-ok
returns-clause-ok g c =
    let S = catalogue_system c.args.catalogue.now in
    let after = c.register_all.new.self in
    let is_id : Id → ℕ = λ s. s.id in
    let same = c.deref.ensures.value in
    let given = gives_all g.I.IntoIterator.into_iter_gives g.I.IntoIter.Iterator.next_gives c.args.types c.in_ok-given.given.items (let r = c.in_ok-given.ensures.ran in (r.0, r.1, r.2, r.3, r.4.0)) in
    IfOk-weaker c.register_all.result _ _
    (λ symbols h. (
      c.in_ok-given.given.items,
      given,
      subst (λ ts. IsRegistration S c.args.self.now (roots_of ts) after) same h.0,
      subst (λ ts. ArePlaces (nodes_of after.identities) (roots_of ts) (map is_id symbols.items)) same h.1,
    ))
    c.register_all.ensures.ok

pub returns-clause-cause : goal.returns-clause-cause
returns-clause-cause g c =
    let given = gives_all g.I.IntoIterator.into_iter_gives g.I.IntoIter.Iterator.next_gives c.args.types c.in_ok-given.given.items (let r = c.in_ok-given.ensures.ran in (r.0, r.1, r.2, r.3, r.4.0)) in
    IfErr-weaker c.register_all.result _ _
    (λ e h. inr (
      c.in_ok-given.given.items,
      given,
      subst (λ ts. IsCause (catalogue_system c.args.catalogue.now) (nodes_of c.args.self.now.identities) (roots_of ts) e) c.deref.ensures.value h,
    ))
    c.register_all.ensures.cause
