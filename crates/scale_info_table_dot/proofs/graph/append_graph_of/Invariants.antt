use Rattle.std.proofs.Common.{◌≡◌, ◌++◌, drop, string_bytes}
use Rattle.scale_info_table_dot.specs.GraphTexts.{GoesOn, types_lines}
use Rattle.scale_info_table_dot.proofs.graph.append_graph_of.Given as goal

abbrev pub invariant-loop-id : goal.invariant-loop-id
invariant-loop-id l =
    (string_bytes l.out ++ types_lines l.table (drop l.id-index l.ids)
    ≡ string_bytes l.initial.out ++ types_lines l.table l.ids)
    × GoesOn (string_bytes l.fn.out) (string_bytes l.out)
