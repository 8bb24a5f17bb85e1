use Rattle.std.proofs.Common.{◌≡◌, drop, map}
use Rattle.scale_info_value_json.specs.TreesOfTexts.{all_hold, fields_hold, has_own_names}
use Rattle.scale_info_value_json.proofs.names.+own_names.Given as goal

abbrev pub invariant-all_own-loop-value : goal.invariant-all_own-loop-value
invariant-all_own-loop-value l =
    all_hold (map has_own_names l.values) ≡ all_hold (map has_own_names (drop l.value-index l.values))

abbrev pub invariant-fields_own-loop-value : goal.invariant-fields_own-loop-value
invariant-fields_own-loop-value l =
    fields_hold (map (λ f. (f.0, has_own_names f.1)) l.fields)
    ≡ fields_hold (map (λ f. (f.0, has_own_names f.1)) (drop l.value-index l.fields))
