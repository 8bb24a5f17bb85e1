use Rattle.std.proofs.Common.{rules, ◌≡◌, ◌∷◌, Some, true, false}
use Rattle.std.proofs.Common.{sym, ap, ◌∙◌, cond}
use Rattle.std.proofs.lemmas.Map.Text.{btree_map_updates_str}
use Rattle.std.specs.Option.{is_some}
use Rattle.std.specs.Str.{bytes_eq}
use Rattle.scale_info_value_json.specs.TreeParts.{has_name}
use Rattle.scale_info_value_json.proofs.ObjectNames.{found, found_more, has_found, has_not_found}
use Rattle.scale_info_value_json.proofs.ObjectNames.{names_of, nameless, one_more, regrouped, twice}
use Rattle.scale_info_value_json.proofs.names.is_object_by_map.Goals as goal

pub returns-in_default-name : goal.returns-in_default-name
returns-in_default-name g c =
    let before = c.loop-rest.invariant in
    sym (nameless g.N.Named.named c.args.fields.now c.loop-rest.rest.now before.after c.field-item.result before.parts
    c.in-len1-up.len_at_least (search rules) (search rules))

pub returns-then-is_some : goal.returns-then-is_some
returns-then-is_some g c =
    let named = g.N.Named.named in
    let before = c.loop-rest.invariant in
    let name = c.as_str.result.now in
    let is : is_some (found (has_name (Some name) (names_of named before.after))) ≡ true =
    ap is_some (sym (before.finds name) ∙ sym c.in_ok-insert.ensures.old) ∙ search rules in
    sym (twice named c.args.fields.now c.loop-rest.rest.now before.after c.field-item.result name before.parts
    c.in-len1-up.len_at_least (search rules) (search rules)
    (has_found (has_name (Some name) (names_of named before.after)) is))

pub loop-rest-preserved : goal.loop-rest-preserved
loop-rest-preserved g c =
    let named = g.N.Named.named in
    let before = c.loop-rest.invariant in
    let field = c.field-item.result in
    let name = c.as_str.result.now in
    let some : named field ≡ Some name = search rules in
    let is : is_some (found (has_name (Some name) (names_of named before.after))) ≡ false =
    ap is_some (sym (before.finds name) ∙ sym c.in_ok-insert.ensures.old) ∙ search rules in
    let fresh = has_not_found (has_name (Some name) (names_of named before.after)) is in
    record {
      after = field ∷ before.after;
      parts =
          regrouped named c.args.fields.now c.loop-rest.rest.now before.after field before.parts
          c.in-len1-up.len_at_least (search rules);
      own = one_more named field before.after name some before.own fresh;
      finds = λ q.
          btree_map_updates_str name c.loop-rest.later c.insert.new.self (Some tt) c.in_ok-insert.ensures.updates q
          ∙ ap (λ there. cond (bytes_eq name q) (Some tt) there) (before.finds q)
          ∙ found_more named field before.after name some q;
    }
