use Rattle.std.proofs.Common.{map, subst}
use Rattle.scale_info_table_diff.proofs.Encoded.{one_table}
use Rattle.scale_info_table_diff.specs.NamedTables.{AreTypesByPath}
use Rattle.scale_info_table_diff.proofs.named.NamedTable.of.Goals as goal

pub invariant_of-result : goal.invariant_of-result
invariant_of-result c =
    let found = c.in_ok-paths.ensures.ok in (
      tt,
      subst (λ types. AreTypesByPath types c.in_ok-paths.paths (map (λ row. row.items) c.in_ok-paths.ids.items))
          (one_table found.0 c.in_ok-table.table c.args.bytes.now found.1 c.in_ok-table.ensures.ok) found.2,
    )
