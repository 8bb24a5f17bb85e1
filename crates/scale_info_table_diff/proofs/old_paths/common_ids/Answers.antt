use Rattle.std.proofs.Common.{◌≡◌, ◌≢◌, ◌∙◌, ◌+◌, ◌++◌, ◌∷◌, List, [], ap, drop, false, get_or, length, map, sym, arith}
use Rattle.std.proofs.lemmas.Grind.{common_steps}
use Rattle.std.proofs.lemmas.List.{drop_all}
use Rattle.scale_info_types.specs.declared.ty.PortableType.{PortableType}
use Rattle.scale_info_table_diff.proofs.CommonIds.{IsCommonSoFar, after_mark, after_none, after_some, at_end, at_path, is_none, is_some, is_unmarked, other_count, row_of}
use Rattle.scale_info_table_diff.specs.Differing.{unmarked}
use Rattle.scale_info_table_diff.specs.TypesByPath.{AreIdsByPath, ids_of}
use Rattle.scale_info_table_diff.proofs.old_paths.common_ids.Goals as goal
use Rattle.scale_info_table_diff.proofs.old_paths.common_ids.Goals.{After-is_empty, Else-is_empty}

pub loop-index-preserved-then-marks-index : goal.loop-index-preserved-then-marks-index
loop-index-preserved-then-marks-index c = λ types y.
    after_mark types c.args.new.now c.args.paths.now c.args.marks.now c.loop-index.index [] false
    c.loop-index.common.items c.loop-index.others.items c.loop-index-test.true c.requires.marks
    (c.loop-index.invariant types y)
    (c.if-marks-index.true)

-- the next path is without a mark
next_path :
    (c : After-is_empty) (types : List PortableType)
    → AreIdsByPath types c.args.paths.now (map (λ row. row.items) c.args.ids.now)
    → IsCommonSoFar types c.args.new.now (unmarked c.args.paths.now c.args.marks.now)
    (get_or c.args.paths.now c.loop-index.index c.index-paths-index.result
    ∷ unmarked (drop (c.loop-index.index + 1) c.args.paths.now)
    (drop (c.loop-index.index + 1) c.args.marks.now))
    c.loop-index.common.items c.loop-index.others.items
next_path c types y =
    at_path types c.args.new.now c.args.paths.now c.args.marks.now c.loop-index.index
    c.index-paths-index.result false c.loop-index.common.items c.loop-index.others.items
    c.loop-index-test.true c.requires.marks (c.loop-index.invariant types y)
    c.if-marks-index.false

-- these are its ids in the new table
ids_there :
    (c : After-is_empty)
    → c.ids_of-there.result.now
    ≡ ids_of (get_or c.args.paths.now c.loop-index.index c.index-paths-index.result) c.args.new.now
ids_there c =
    c.ids_of-there.ensures ∙ ap (λ p. ids_of p c.args.new.now) c.index-paths-index.is

-- which has some
some_there : (c : Else-is_empty) → c.ids_of-there.result.now ≢ []
some_there c =
    is_some c.ids_of-there.result.now c.is_empty.result c.is_empty.ensures c.if-is_empty.false

pub loop-index-preserved-then-is_empty : goal.loop-index-preserved-then-is_empty
loop-index-preserved-then-is_empty c = λ types y.
    let here = (goal.at.loop-index-preserved-then-is_empty c).After-is_empty in
    let none = is_none c.ids_of-there.result.now c.is_empty.result c.is_empty.ensures c.if-is_empty.true in
    after_none _ _ _ _ _ _ _ (next_path here types y)
    (sym (ids_there here) ∙ none)

pub returns-then-there-len : goal.returns-then-there-len
returns-then-there-len c = λ types y.
    let at = goal.at.returns-then-there-len c in
    let row = (get_or c.args.ids.now c.loop-index.index c.index-ids-index.result).items in
    let there = c.ids_of-there.result.now in
    let unequal : length there ≢ length row = grind (arith, common_steps) in
    record {
      path = get_or c.args.paths.now c.loop-index.index c.index-paths-index.result;
      one =
          is_unmarked types c.args.new.now c.args.paths.now c.args.marks.now c.loop-index.index
          c.index-paths-index.result false c.loop-index.common.items c.loop-index.others.items
          c.loop-index-test.true c.requires.marks (c.loop-index.invariant types y)
          c.if-marks-index.false;
      other =
          other_count _ _ _ _ _ _ _ (next_path at.After-is_empty types y) row there
          (row_of (λ v. v.items) types c.args.paths.now c.args.ids.now c.loop-index.index
          c.index-paths-index.result c.index-ids-index.result c.loop-index-test.true
          c.requires.ids y)
          (ids_there at.After-is_empty) (some_there at.Else-is_empty) unequal;
    }

pub loop-index-preserved : goal.loop-index-preserved
loop-index-preserved c = λ types y.
    let at = goal.at.loop-index-preserved c in
    let row = (get_or c.args.ids.now c.loop-index.index c.index-ids-index.result).items in
    let there = c.ids_of-there.result.now in
    let equal : length there ≡ length row = grind (arith, common_steps) in
    after_some _ _ _ _ _ _ _ (next_path at.After-is_empty types y) row there
    c.extend_from_slice.new.self.items c.extend_from_slice-in-loop-index.new.self.items
    (row_of (λ v. v.items) types c.args.paths.now c.args.ids.now c.loop-index.index
    c.index-paths-index.result c.index-ids-index.result c.loop-index-test.true c.requires.ids y)
    (ids_there at.After-is_empty) (some_there at.Else-is_empty) equal
    (c.in_ok-extend_from_slice.ensures.items
    ∙ ap (λ xs. c.loop-index.common.items ++ xs)
    (c.deref.ensures.value ∙ ap (λ v. v.items) c.index-ids-index.is))
    c.in_ok-extend_from_slice-2.ensures.items

pub returns : goal.returns
returns c = λ types y.
    let paths = c.args.paths.now in
    let marks = c.args.marks.now in
    let i = c.loop-index.index in
    at_end types c.args.new.now (unmarked paths marks) (unmarked (drop i paths) (drop i marks)) c.loop-index.common.items c.loop-index.others.items
    (ap (λ ps. unmarked ps (drop i marks)) (drop_all i paths (omega arith))) (c.loop-index.invariant types y)
