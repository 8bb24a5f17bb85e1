use Rattle.std.proofs.Common.{◌≤◌, ◌∙◌, List, ap, length, map, subst, sym}
use Rattle.scale_info_types.specs.declared.ty.PortableType.{PortableType}
use Rattle.scale_info_table_diff.proofs.Encoded.{few_types}
use Rattle.scale_info_table_diff.specs.TypesByPath.{AreIdsByPath, paths_of}
use Rattle.scale_info_table_diff.proofs.named.paths_in.Goals as goal

pub paths_with_ids-requires : goal.paths_with_ids-requires
paths_with_ids-requires c =
    subst (λ (ts : List PortableType). length ts ≤ 4294967295) (sym c.types.ensures)
    (few_types c.in_ok-table.table.types c.args.bytes.now c.in_ok-table.ensures.ok)

pub returns-clause-ok : goal.returns-clause-ok
returns-clause-ok c =
    let found = c.in_ok-paths_with_ids.field-0 in (
      c.in_ok-table.table.types,
      c.in_ok-table.ensures.ok,
      record {
        are_paths = c.in_ok-paths_with_ids.ensures.paths ∙ ap paths_of c.types.ensures;
        are_ids =
            subst (λ ts. AreIdsByPath ts found.0 (map (λ row. row.items) found.1.items)) c.types.ensures
            c.in_ok-paths_with_ids.ensures.ids;
      },
    )
