use Rattle.std.proofs.Common.{refl, ◌∙◌}
use Rattle.std.proofs.lemmas.Result.{err_from_is_err_and}
use Rattle.scale_info_catalogue.specs.CatalogueSystems.{catalogue_system}
use Rattle.scale_info_catalogue.specs.Discoveries.{roots_of}
use Rattle.scale_info_export.specs.Exports.{IsExported, IsRegisteredTable}
use Rattle.scale_info_export.specs.BorrowedEntries.{borrowed_entries, picked, renumbered_entries}
use Rattle.scale_info_export.proofs.Exported.{encode_error, only_memory}
use Rattle.scale_info_export.proofs.BorrowedEntries.{length_borrowed, borrowed_pruned, borrowed_table}
use Rattle.scale_info_registry.specs.BorrowedTypes.{all_with_ids_in}
use Rattle.scale_info_registry.specs.Registrations.{registered}
use Rattle.scale_info_table.specs.declared.portable.PortableRegistry.{PortableRegistry}
use Rattle.scale_info_export.proofs.export.export_borrowed.Given as given
use Rattle.scale_info_export.proofs.export.export_borrowed.Goals as goal
use Rattle.scale_info_export.proofs.export.export_borrowed.Goals.{After-encode_kept, In_ok-found}

-- the table of what was found, in which descriptions are borrowed
abbrev whole : (g : given.Over) → In_ok-found g → PortableRegistry
whole g c = record {
  types = borrowed_entries c.in_ok-found.found.numbers c.in_ok-found.found.descriptions.items;
}

-- it is the one that the roots are registered in
is_table :
    (g : given.Over) (c : In_ok-found g)
    → IsRegisteredTable (catalogue_system c.args.catalogue.now) (roots_of c.args.types.now)
    c.in_ok-found.found.ids.items (whole g c)
is_table g c =
    let S = catalogue_system c.args.catalogue.now in
    let roots = roots_of c.args.types.now in
    let ids = c.in_ok-found.found.numbers in
    let found = c.in_ok-found.found.descriptions.items in
    let borrowed = c.in_ok-found.ensures in
    let made =
    c.registered_tables.ensures S roots (registered ids (all_with_ids_in ids found)) (whole g c)
    borrowed.ok refl (length_borrowed ids found ∙ borrowed.long) in
    borrowed_table S roots ids found c.in_ok-found.found.ids.items made borrowed.long borrowed.few borrowed.places

-- what is kept of it
is_exported :
    (g : given.Over) (c : After-encode_kept g)
    → IsRegisteredTable (catalogue_system c.args.catalogue.now) (roots_of c.args.types.now)
    c.in_ok-found.found.ids.items
    (record {
      types = borrowed_entries c.in_ok-found.found.numbers c.in_ok-found.found.descriptions.items;
    })
    → IsExported (catalogue_system c.args.catalogue.now) (roots_of c.args.types.now) (goal.F-step g)
    c.args.filter c.in_ok-found.found.ids.items c.in-Ok.kept.map
    (record {
      types =
          renumbered_entries c.in_ok-found.found.numbers c.deref-2.result.now
          (picked c.in_ok-found.found.descriptions.items c.deref.result.now);
    })
is_exported g c table =
    borrowed_pruned (catalogue_system c.args.catalogue.now) (roots_of c.args.types.now)
    c.in_ok-found.found.numbers c.in_ok-found.found.descriptions.items c.in_ok-found.found.ids.items
    c.deref.result.now c.deref-2.result.now c.in-Ok.kept.order.items
    c.in-Ok.kept.numbers.items c.in-Ok.kept.map _ c.args.filter table
    c.deref.ensures.value c.deref-2.ensures.value c.in-Ok.ensures.within
    c.in-Ok.ensures.ok

pub unreachable-requires : goal.unreachable-requires
unreachable-requires g c =
    let at = (goal.at.unreachable-requires g c).In_ok-found in
    let only =
    only_memory (catalogue_system c.args.catalogue.now) (roots_of c.args.types.now)
    c.in_ok-found.found.ids.items (whole g at) _ c.args.filter (is_table g at)
    c.in-Err-Dangling.field-0 c.in-Err-Dangling.ensures.cause in
    cc

pub unreachable-requires-in-Err-TooManyTypes : goal.unreachable-requires-in-Err-TooManyTypes
unreachable-requires-in-Err-TooManyTypes g c =
    let at = (goal.at.unreachable-requires-in-Err-TooManyTypes g c).In_ok-found in
    let only =
    only_memory (catalogue_system c.args.catalogue.now) (roots_of c.args.types.now)
    c.in_ok-found.found.ids.items (whole g at) _ c.args.filter (is_table g at)
    c.in-Err-TooManyTypes.field-0 c.in-Err-TooManyTypes.ensures.cause in
    cc

pub returns-in_err-encode_kept-clause-cause : goal.returns-in_err-encode_kept-clause-cause
returns-in_err-encode_kept-clause-cause g c =
    let at = goal.at.returns-in_err-encode_kept-clause-cause g c in
    let p = err_from_is_err_and c.from_residual-in_err-encode_kept.result c.from_residual-in_err-encode_kept.ensures.1 in
    rw (p.1, p.2)
    (encode_error (catalogue_system c.args.catalogue.now) (roots_of c.args.types.now)
    c.in_ok-found.found.ids.items c.in-Ok.kept.map _ _ c.args.filter
    (is_exported g at.After-encode_kept (is_table g at.In_ok-found))
    c.in_err-encode_kept.field-0.0 c.in_err-encode_kept.ensures.too_long)

pub returns-clause-ok : goal.returns-clause-ok
returns-clause-ok g c =
    let at = goal.at.returns-clause-ok g c in (
      record {
        types =
            renumbered_entries c.in_ok-found.found.numbers c.deref-2.result.now
            (picked c.in_ok-found.found.descriptions.items c.deref.result.now);
      },
      is_exported g at.After-encode_kept (is_table g at.In_ok-found),
      c.in_ok-encode_kept.ensures.ok,
    )
