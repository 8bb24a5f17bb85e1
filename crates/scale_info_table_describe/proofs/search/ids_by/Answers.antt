use Rattle.std.proofs.Common.{◌≡◌, ◌<◌, ◌≤◌, ◌∙◌, ap, sym, length, take, arith}
use Rattle.scale_info_segments.specs.TypePaths.{texts}
use Rattle.scale_info_table.proofs.IndexedEntries.{taken_within}
use Rattle.scale_info_table_describe.specs.PathSearches.{indices_from, test_of}
use Rattle.scale_info_table_describe.proofs.Searched.{all_found, one_found, one_other}
use Rattle.scale_info_table_describe.proofs.search.ids_by.Goals.{then-is_found+in_ok-push, else-is_found}
use Rattle.scale_info_table_describe.proofs.search.ids_by.Goals as goal

pub loop-index-preserved : goal.loop-index-preserved
loop-index-preserved c =
    let types = take c.min.result c.types-entries.result.now in
    let test = test_of c.args.search (texts c.in_ok-pieces.pieces.items) in
    let within : c.loop-index.index < length types = omega arith in
    let tested : test c.index-types-index.result.ty.path.segments ≡ c.is_found.result =
    sym
    (c.is_found.ensures
    ∙ ap (λ s. test_of c.args.search (texts s) c.as_slice-in-loop-index.result.now) c.as_slice.ensures.value
    ∙ ap test c.as_slice-in-loop-index.ensures
    ∙ ap (λ entry. test entry.ty.path.segments) (sym c.index-types-index.is)) in
    elim c.if-is_found.branch [
      | then-is_found+in_ok-push w ↦ rw w.ids-is
          (one_found test types c.loop-index.index c.index-types-index.result c.loop-index.ids.items within
          c.index-types-index.is c.loop-index.invariant _ (tested ∙ w.if-is_found.true) w.in_ok-push.ensures.items)
      | else-is_found w ↦ rw w.ids-is
          (one_other test types c.loop-index.index c.index-types-index.result c.loop-index.ids.items within
          c.index-types-index.is c.loop-index.invariant (tested ∙ w.if-is_found.false))
    ]

pub returns : goal.returns
returns c =
    let types = take c.min.result c.types-entries.result.now in
    let test = test_of c.args.search (texts c.in_ok-pieces.pieces.items) in
    let past : length types ≤ c.loop-index.index = omega arith in
    record {
      pieces = texts c.in_ok-pieces.pieces.items;
      cut = c.in_ok-pieces.ensures;
      found =
          all_found test types c.loop-index.index c.loop-index.ids.items past c.loop-index.invariant
          ∙ ap (indices_from 0 test)
          (taken_within c.types-entries.result.now 4294967296 c.min.result c.min.ensures
          ∙ ap (take 4294967296) c.types-entries.ensures);
    }
