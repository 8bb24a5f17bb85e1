use Rattle.std.proofs.Common.{◌<◌, ◌∷◌, ◌∙◌, [], ap, arith, length, subst}
use Rattle.std.proofs.lemmas.Bool.Decides.{nat_tests}
use Rattle.scale_info_table_describe.specs.PathSearches.{AreIdsBy, is_path}
use Rattle.type_reader_run.specs.Selections.{by_id, by_path}
use Rattle.type_reader_run.proofs.selection.named.Goals as goal

pub returns-in-Some-clause-ok : goal.returns-in-Some-clause-ok
returns-in-Some-clause-ok c =
    let known = c.in-Some.ensures.some in
    let within : c.in-Some.id < length c.args.table.now.types = omega arith in
    by_id known.0 (subst (λ i. i < length c.args.table.now.types) known.1 within)
    (c.in_ok-vec.ensures.items ∙ ap (λ i. i ∷ []) known.1)

pub returns-clause-ok : goal.returns-clause-ok
returns-clause-ok c =
    let types = c.args.table.now.types in
    let ids = c.in_ok-ids.ids.items in
    by_path
    (record {
      no_id = rw c.in_default.is at c.id_of.ensures.none;
      found = subst (λ path. AreIdsBy is_path types path ids) c.as_str.ensures c.in_ok-ids.ensures;
    })
    (λ none. let short = ap length none in absurd (grind (arith, nat_tests)))
