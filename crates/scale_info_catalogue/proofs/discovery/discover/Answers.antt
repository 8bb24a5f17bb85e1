use Rattle.std.proofs.Common.{[], rules, subst, sym, append-nil}
use Rattle.std.proofs.lemmas.Result.{err_from_is_err_and}
use Rattle.std.specs.Option.{option_copied}
use Rattle.scale_info_catalogue.specs.CatalogueSystems.{catalogue_system}
use Rattle.scale_info_catalogue.specs.Discoveries.{nodes_of, stacked, IsNumbered}
use Rattle.scale_info_numberings.proofs.WorkLists.{walk_starts}
use Rattle.scale_info_catalogue.proofs.Discovered.{kept_more, found_more, passes, adds, shrinks}
use Rattle.scale_info_catalogue.proofs.Discovered.{ends, fails}
use Rattle.scale_info_catalogue.proofs.Terms.{distinct_nodes}
use Rattle.scale_info_catalogue.proofs.discovery.discover.Goals as goal

pub loop-next-init : goal.loop-next-init
loop-next-init c = (
  walk_starts (catalogue_system c.args.catalogue.now) (nodes_of c.args.identities.now) (stacked c.args.pending.items) (distinct_nodes c.args.identities.now c.elements-distinct.ensures.distinct),
  ([], sym (append-nil c.args.identities.now)),
  ([], sym (append-nil c.args.identities.now), search rules),
)

pub loop-next-preserved : goal.loop-next-preserved
loop-next-preserved c =
    let id = c.type_id.result.now in
    let n = subst (λ o. IsNumbered c.args.catalogue.now c.loop-next.identities id (option_copied o) c.number_cached.new.identities) c.in_default-new.is c.in_ok-new.ensures.ok in
    rw n.1 (
      passes c.args.catalogue.now c.args.identities.now c.args.pending.items c.loop-next.identities c.loop-next.pending.items c.pop.new.self.items c.in-Some.next id c.in-Some.ensures.items c.type_id.ensures n.0 c.loop-next.invariant.0,
      c.loop-next.invariant.1,
      c.loop-next.invariant.2,
    )

pub returns-in_err-new-clause-err : goal.returns-in_err-new-clause-err
returns-in_err-new-clause-err c =
    let p = err_from_is_err_and c.from_residual.result c.from_residual.ensures.1 in
    rw (p.1, p.2)
    (fails c.args.catalogue.now c.args.identities.now c.args.pending.items c.loop-next.identities c.loop-next.pending.items c.pop.new.self.items c.in-Some.next c.type_id.result.now
    c.in_err-new.field-0.0 c.in-Some.ensures.items c.type_id.ensures c.in_err-new.ensures.cause c.loop-next.invariant.0)

pub loop-next-preserved-in-Some-new : goal.loop-next-preserved-in-Some-new
loop-next-preserved-in-Some-new c =
    let cat = c.args.catalogue.now in
    let id = c.type_id.result.now in
    let d = c.in-Some-new.described.now in
    let n = subst (λ o. IsNumbered cat c.loop-next.identities id (option_copied o) c.number_cached.new.identities) c.in-Some-new.is c.in_ok-new.ensures.ok in (
      adds cat c.args.identities.now c.args.pending.items c.loop-next.identities c.number_cached.new.identities c.loop-next.pending.items c.pop.new.self.items c.in_ok-pending.pending.items c.in_ok-references_of.field-0.items c.in-Some.next id d
          c.in-Some.ensures.items c.type_id.ensures n.0 n.1 n.2 c.in_ok-pending.ensures.ok c.in_ok-references_of.ensures c.loop-next.invariant.0,
      kept_more c.args.identities.now c.loop-next.identities c.number_cached.new.identities id c.loop-next.invariant.1 n.2,
      found_more cat c.args.identities.now c.loop-next.identities c.number_cached.new.identities id c.loop-next.found.items c.in_ok-found.found.items c.in-Some-new.described n.1 n.2 (search rules) c.loop-next.invariant.2,
    )

pub loop-next-smaller-in-Some-new : goal.loop-next-smaller-in-Some-new
loop-next-smaller-in-Some-new c =
    let cat = c.args.catalogue.now in
    let id = c.type_id.result.now in
    let d = c.in-Some-new.described.now in
    let n = subst (λ o. IsNumbered cat c.loop-next.identities id (option_copied o) c.number_cached.new.identities) c.in-Some-new.is c.in_ok-new.ensures.ok in
    let walking = loop-next-preserved-in-Some-new c in
    shrinks cat c.args.identities.now c.args.pending.items c.loop-next.identities c.number_cached.new.identities c.loop-next.pending.items c.pop.new.self.items c.in_ok-pending.pending.items c.in_ok-references_of.field-0.items c.in-Some.next id d
    c.in-Some.ensures.items n.1 n.2 c.in_ok-pending.ensures.ok c.in_ok-references_of.ensures walking.0

pub returns-clause-ok : goal.returns-clause-ok
returns-clause-ok c =
    ends c.args.catalogue.now c.args.identities.now c.args.pending.items c.loop-next.identities c.loop-next.pending.items (search rules) c.loop-next.invariant.0
