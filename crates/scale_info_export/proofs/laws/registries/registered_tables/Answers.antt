use Rattle.std.proofs.Common.{ap, map, length, sym, ◌∙◌, subst}
use Rattle.scale_info_numberings.specs.Tables.{IsTable}
use Rattle.scale_info_catalogue.specs.Discoveries.{nodes_of}
use Rattle.scale_info_walk.specs.TypeSystems.{entry_of}
use Rattle.scale_info_table.proofs.Interned.{length_numbered}
use Rattle.scale_info_export.proofs.NumberedEntries.{numbered_entries}
use Rattle.scale_info_export.proofs.laws.registries.registered_tables.Goals as goal

pub returns : goal.returns
returns c = λ S R r table registration is long.
    let count = sym (length_numbered 0 r.types) ∙ ap length (sym is) ∙ long in
    let afresh = c.registered_afresh.ensures S R r registration count in (
      afresh.0,
      subst (λ entries. IsTable S (nodes_of r.identities) entries)
          (sym (ap (map entry_of) is ∙ numbered_entries 0 r.types)) afresh.1,
    )
