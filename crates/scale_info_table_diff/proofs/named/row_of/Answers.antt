use Rattle.std.proofs.Common.{◌≡◌, ◌<◌, Some, map, length, slice_get, ap, sym, ◌∙◌, rules, arith, lt-ltb}
use Rattle.std.proofs.lemmas.Bool.{false≢true}
use Rattle.std.proofs.lemmas.Grind.{common_steps}
use Rattle.std.proofs.lemmas.List.{length-map}
use Rattle.std.proofs.lemmas.Option.{gets, slice_get_within}
use Rattle.std.proofs.lemmas.Slice.Zip.{AllZip-long}
use Rattle.scale_info_table_diff.proofs.AddedIds.{ids_at, is_known, no_ids, row_at, same_path}
use Rattle.scale_info_table_diff.specs.TypesByPath.{ids_of}
use Rattle.scale_info_table_diff.proofs.named.row_of.Goals as goal

pub returns-in_default : goal.returns-in_default
returns-in_default c = λ types x.
    no_ids types c.args.paths.now
    (map (λ row. row.items) c.args.ids.now) x c.args.path.now
    (λ inside. false≢true (c.in_default.ensures.known.1 (is_known c.args.paths.now c.args.path.now inside)))

pub returns-in-Some-get : goal.returns-in-Some-get
returns-in-Some-get c = λ types x.
    let found = c.in-Some.ensures.found in
    let at : slice_get c.args.ids.now c.in-Some.symbol.id ≡ Some c.in-Some-get.row.now =
    grind (arith, common_steps, gets, rules, c.in-Some-get.ensures.lookup, c.into_untracked.ensures) in
    c.deref.ensures.value
    ∙ ids_at types c.args.paths.now
    (map (λ row. row.items) c.args.ids.now) x c.in-Some.symbol.id found.0 c.in-Some-get.row.now.items
    found.1 (row_at (λ row. row.items) c.args.ids.now c.in-Some.symbol.id c.in-Some-get.row.now at)
    ∙ ap (λ p. ids_of p types) (sym (same_path c.args.path.now found.0 found.2))

pub returns-in-None : goal.returns-in-None
returns-in-None c = λ types x.
    let found = c.in-Some.ensures.found in
    let within = slice_get_within c.args.paths.now c.in-Some.symbol.id found.0 found.1 in
    let long =
    AllZip-long (λ path row. row ≡ ids_of path types) c.args.paths.now
    (map (λ row. row.items) c.args.ids.now) x.are_ids in
    let same = length-map c.args.ids.now (λ row. row.items) in
    let below : c.into_untracked.result.id < length c.args.ids.now =
    grind (arith, common_steps, c.into_untracked.ensures) in
    absurd (false≢true (c.in-None.ensures.lookup.0 ∙ lt-ltb c.into_untracked.result.id (length c.args.ids.now) below))
