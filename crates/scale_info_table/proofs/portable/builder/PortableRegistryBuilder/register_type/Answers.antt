use Rattle.scale_info_table.proofs.Interned.{placed, new_is_unregistered, unregistered_is_new}
use Rattle.scale_info_table.proofs.Interned.{registered_or_not, elements_kept}
use Rattle.scale_info_table.proofs.portable.builder.PortableRegistryBuilder.register_type.Goals as goal

pub returns-clause-known : goal.returns-clause-known
returns-clause-known c =
    let known = rw c.self.view_is at c.number_in.ensures.known in
    λ id e. known id (placed _ c.equal_portable.ensures.description c.args.self.now c.args.ty id e)

pub returns-clause-new : goal.returns-clause-new
returns-clause-new c =
    let new = rw c.self.view_is at c.number_in.ensures.new in
    λ u. new (unregistered_is_new _ c.equal_portable.ensures.description c.args.self.now c.args.ty u)

pub returns-clause-full : goal.returns-clause-full
returns-clause-full c =
    let law = c.equal_portable.ensures.description in
    let full = rw c.self.view_is at c.number_in.ensures.full in (
      (λ h. let old = full.0 h in (old.0, new_is_unregistered _ law c.args.self.now c.args.ty old.1)),
      (λ h. full.1 (h.0, unregistered_is_new _ law c.args.self.now c.args.ty h.1)),
    )

pub returns-clause-kept : goal.returns-clause-kept
returns-clause-kept c =
    let either =
    registered_or_not _ c.equal_portable.ensures.description c.args.self.now c.args.ty in
    let err = rw c.self.view_is at c.number_in.ensures.err in
    elements_kept c.args.self.now _ c.args.ty c.number_in.result either (returns-clause-known c)
    (returns-clause-new c) err
