use Rattle.std.proofs.Common.{rules, IfErr, subst, ◌∙◌}
use Rattle.scale_info_catalogue.specs.CatalogueSystems.{catalogue_system}
use Rattle.scale_info_catalogue.specs.Discoveries.{nodes_of, stacked, IsCause}
use Rattle.scale_info_registry.specs.Registrations.{registered}
use Rattle.scale_info_registry.proofs.Registered.{cut_closed, cut_parts, on_err, stays_closed}
use Rattle.scale_info_registry.proofs.registry.Registry.register.Goals as goal

pub invariant_of-self : goal.invariant_of-self
invariant_of-self c =
    cut_closed c.self.inside.identities c.register_in-done.new.identities c.cut_back.new.identities c.self.inside.types.items c.register_in-done.new.types.items c.cut_back.new.types.items
    c.len-known.result (search rules) c.self.invariant c.cut_back.ensures.identities c.cut_back.ensures.types c.register_in-done.ensures.kept c.register_in-done.ensures.kept_types

pub invariant_of-self-else-is_err : goal.invariant_of-self-else-is_err
invariant_of-self-else-is_err c =
    stays_closed (catalogue_system c.args.catalogue.now) (registered c.self.inside.identities c.self.inside.types.items) (registered c.register_in-done.new.identities c.register_in-done.new.types.items)
    (stacked c.args.pending.items) c.self.invariant (search rules) (search rules)

pub returns-then-is_err-clause-cause : goal.returns-then-is_err-clause-cause
returns-then-is_err-clause-cause c =
    subst (λ v. IfErr c.register_in-done.result (IsCause (catalogue_system c.args.catalogue.now) (nodes_of v.identities) (stacked c.args.pending.items))) c.self.view_is c.register_in-done.ensures.cause

pub returns-then-is_err-clause-err : goal.returns-then-is_err-clause-err
returns-then-is_err-clause-err c =
    on_err c.register_in-done.result
    (cut_parts c.self.inside.identities c.register_in-done.new.identities c.cut_back.new.identities c.self.inside.types.items c.register_in-done.new.types.items c.cut_back.new.types.items
    c.len-known.result (search rules) c.self.invariant c.cut_back.ensures.identities c.cut_back.ensures.types c.register_in-done.ensures.kept c.register_in-done.ensures.kept_types
    ∙ c.self.view_is)
