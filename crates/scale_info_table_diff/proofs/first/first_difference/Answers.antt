use Rattle.std.proofs.Common.{inr}
use Rattle.std.proofs.lemmas.Result.{err_from_is_err_and}
use Rattle.scale_info_table_diff.proofs.Differences.{can_be_pruned, kept_place, of_same, told}
use Rattle.scale_info_table_diff.specs.Differences.{AgreeThroughout, IsFirstPlace}
use Rattle.scale_info_table_diff.proofs.first.first_difference.Goals as goal

pub returns-in_err-other_table-clause-cause : goal.returns-in_err-other_table-clause-cause
returns-in_err-other_table-clause-cause c =
    let x = c.in_ok-table.ensures.ok in
    let p =
    err_from_is_err_and c.from_residual-in_err-other_table.result
    c.from_residual-in_err-other_table.ensures.1 in
    rw (p.1, p.2)
    (inr (
      can_be_pruned c.in_ok-table.table.types (x.0, x.2),
      c.in_err-other_table.ensures.cause,
    ))

pub returns-in_default-clause-ok : goal.returns-in_default-clause-ok
returns-in_default-clause-ok c =
    let x = c.in_ok-table.ensures.ok in
    let y = c.in_ok-other_table.ensures.ok in
    told (x.0, x.2) (y.0, y.2)
    (of_same AgreeThroughout c.types.ensures c.types-2.ensures c.in_default.ensures.none)

pub id_at-requires : goal.id_at-requires
id_at-requires c =
    let x = c.in_ok-table.ensures.ok in
    let first = c.in-Some.ensures.some in
    kept_place c.args.old.now c.args.old_ids.now x.0 c.in_ok-table.table.types c.types.result.now
    c.in_ok-table.places c.in-Some.place first.entry x.1 x.2 c.types.ensures first.found

pub id_at-requires-2 : goal.id_at-requires-2
id_at-requires-2 c =
    let y = c.in_ok-other_table.ensures.ok in
    let first = c.in-Some.ensures.some in
    kept_place c.args.new.now c.args.new_ids.now y.0 c.in_ok-other_table.other_table.types c.types-2.result.now
    c.in_ok-other_table.other_places c.in-Some.place first.other y.1 y.2 c.types-2.ensures first.other_found

pub returns-clause-ok : goal.returns-clause-ok
returns-clause-ok c =
    let x = c.in_ok-table.ensures.ok in
    let y = c.in_ok-other_table.ensures.ok in
    told (x.0, x.2) (y.0, y.2)
    (record {
      place = c.in-Some.place;
      first =
          of_same (λ es os. IsFirstPlace es os c.in-Some.place) c.types.ensures c.types-2.ensures
          c.in-Some.ensures.some;
      is = (x.1 c.id_at.result c.in-Some.place).0 c.id_at.ensures;
      other_is = (y.1 c.id_at-2.result c.in-Some.place).0 c.id_at-2.ensures;
    })
