use Rattle.scale_info_value_json.proofs.compact.+compact.Given as goal

abbrev pub decreases-compact_kind : goal.decreases-compact_kind
decreases-compact_kind g l = l.left
