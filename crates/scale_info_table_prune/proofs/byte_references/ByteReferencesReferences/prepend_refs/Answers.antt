use Rattle.std.proofs.Common.{rules, ◌≡◌, ◌+◌, ◌-◌, ◌≤◌, ◌∙◌, length, min, get_or, slice_index_or}
use Rattle.std.proofs.Common.{ap, sym, drop, take}
use Rattle.std.proofs.lemmas.Option.{slice_get-get_or, slice_get_past, unwrap_or-slice_get}
use Rattle.std.specs.Option.{unwrap_or}
use Rattle.scale_info_table_prune.proofs.ByteIndexes.{prepended}
use Rattle.scale_info_table_prune.proofs.byte_references.ByteReferencesReferences.prepend_refs.Goals as goal
use Rattle.scale_info_table_prune.proofs.byte_references.ByteReferencesReferences.prepend_refs.Goals.{in-Some}
use Rattle.scale_info_table_prune.proofs.byte_references.ByteReferencesReferences.prepend_refs.Goals.{in-None}

pub returns-clause-refs : goal.returns-clause-refs
returns-clause-refs c =
    let starts = c.args.self.now.starts.now in
    let references = c.args.self.now.references.now in
    let id = c.args.id in
    let start = get_or starts id 0 in
    let stop : c.match-get.end ≡ slice_index_or starts (id + 1) (length references) =
    elim c.match-get.branch [
      | in-Some w ↦ search rules
      | in-None w ↦
          let past : length starts ≤ id + 1 = search rules in
          let none : slice_index_or starts (id + 1) (length references) ≡ length references =
          sym (unwrap_or-slice_get starts (id + 1) (length references))
          ∙ ap (λ o. unwrap_or o (length references)) (slice_get_past starts (id + 1) past) in
          search rules
    ] in
    prepended starts references id start c.match-get.end c.min.result c.min-2.result c.args.refs.now c.prepend.new.self
    c.prepend.result (slice_get-get_or starts id 0 c.requires) stop c.min.ensures
    (c.min-2.ensures ∙ ap (λ k. min k (length (take (length references - c.min.result) (drop c.min.result references)))) c.saturating_sub.ensures)
    c.prepend.ensures.ok
