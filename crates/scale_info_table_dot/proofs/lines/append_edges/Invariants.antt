use Rattle.std.proofs.Common.{◌≡◌, ◌++◌, string_bytes}
use Rattle.std.specs.List.{flat_map}
use Rattle.std.specs.Vec.Iter.{into_iter_items}
use Rattle.scale_info_references.specs.Gathered.{targets}
use Rattle.scale_info_table_dot.specs.GraphTexts.{GoesOn, edge_line}
use Rattle.scale_info_table_dot.proofs.lines.append_edges.Given as goal

abbrev pub invariant-loop-reference : goal.invariant-loop-reference
invariant-loop-reference l =
    (string_bytes l.out
    ++ flat_map (λ reference. edge_line l.digits reference.id) (targets (into_iter_items l.reference-iterator))
    ≡ string_bytes l.initial.out
    ++ flat_map (λ reference. edge_line l.digits reference.id) (targets l.fn.references.items))
    × GoesOn (string_bytes l.initial.out) (string_bytes l.out)
