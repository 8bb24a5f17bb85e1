use Rattle.std.proofs.Common.{rules, inr}
use Rattle.std.proofs.lemmas.Result.{IfErr-weaker}
use Rattle.scale_info_types.proofs.Iterators.{gives_all}
use Rattle.scale_info_registry.specs.Registrations.{registered}
use Rattle.scale_info_registry.proofs.Registered.{cut_kept, cut_same, keeps_itself, on_err}
use Rattle.scale_info_registry.proofs.registry.Registry.map_into_portable.Goals as goal

pub invariant_of-self : goal.invariant_of-self
invariant_of-self g c =
    cut_kept c.self.inside.identities c.self-2.inside.identities c.cut_back.new.identities c.self.inside.types.items c.self-2.inside.types.items c.cut_back.new.types.items
    c.len-known.result (search rules) c.self.invariant c.cut_back.ensures.identities c.cut_back.ensures.types c.args.self.now c.convert_all-done.new.self c.self.view_is c.self-2.view_is c.convert_all-done.ensures.kept

pub returns-then-is_err-clause-cause : goal.returns-then-is_err-clause-cause
returns-then-is_err-clause-cause g c =
    let given = gives_all g.I.IntoIterator.into_iter_gives g.I.IntoIter.Iterator.next_gives c.args.items c.in_ok-given.given.items (let r = c.in_ok-given.ensures.ran in (r.0, r.1, r.2, r.3, r.4.0)) in
    IfErr-weaker c.convert_all-done.result _ _ (λ e h. inr (c.in_ok-given.given.items, given, h)) c.convert_all-done.ensures.cause

pub returns-then-is_err-clause-kept : goal.returns-then-is_err-clause-kept
returns-then-is_err-clause-kept g c =
    keeps_itself c.args.self.now (registered c.cut_back.new.identities c.cut_back.new.types.items)
    (cut_same c.self.inside.identities c.self-2.inside.identities c.cut_back.new.identities c.self.inside.types.items c.self-2.inside.types.items c.cut_back.new.types.items
    c.len-known.result (search rules) c.self.invariant c.cut_back.ensures.identities c.cut_back.ensures.types c.args.self.now c.convert_all-done.new.self c.self.view_is c.self-2.view_is c.convert_all-done.ensures.kept)

pub returns-then-is_err-clause-err : goal.returns-then-is_err-clause-err
returns-then-is_err-clause-err g c =
    on_err c.convert_all-done.result
    (cut_same c.self.inside.identities c.self-2.inside.identities c.cut_back.new.identities c.self.inside.types.items c.self-2.inside.types.items c.cut_back.new.types.items
    c.len-known.result (search rules) c.self.invariant c.cut_back.ensures.identities c.cut_back.ensures.types c.args.self.now c.convert_all-done.new.self c.self.view_is c.self-2.view_is c.convert_all-done.ensures.kept)
