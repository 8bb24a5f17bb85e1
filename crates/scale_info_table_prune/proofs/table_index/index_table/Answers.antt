use Rattle.std.proofs.Common.{rules, ◌≡◌, ◌==◌, length, false}
use Rattle.scale_info_bytes.proofs.Lists.{no_count, no_items_after}
use Rattle.scale_info_grammar.specs.Ty.{EncodesPortableType}
use Rattle.scale_info_table_prune.proofs.TableIndexes.{has_trailing, is_not_empty}
use Rattle.scale_info_table_prune.proofs.table_index.index_table.Goals as goal

pub returns-in_default-clause-err : goal.returns-in_default-clause-err
returns-in_default-clause-err c = no_count EncodesPortableType _ c.in_default.ensures.none

pub returns-in_default-2-clause-err : goal.returns-in_default-2-clause-err
returns-in_default-2-clause-err c =
    no_items_after EncodesPortableType _ _ _ c.in-Some.ensures.some
    (rw c.in_default-2.is at c.in_ok-index.ensures.none).none

pub returns-then-not-is_empty-clause-err : goal.returns-then-not-is_empty-clause-err
returns-then-not-is_empty-clause-err c =
    let some : false ≡ (length c.in-Some-2.rest.now == 0) = search rules in
    has_trailing _ _ _ c.in-Some-2.rest.now _ _ _ (is_not_empty c.in-Some-2.rest.now some) c.in-Some.ensures.some
    (rw c.in-Some-2.is at c.in_ok-index.ensures.some)
