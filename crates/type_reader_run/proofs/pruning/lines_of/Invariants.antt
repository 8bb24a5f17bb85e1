use Rattle.std.proofs.Common.{◌≡◌, ◌++◌, string_bytes}
use Rattle.std.specs.List.{flat_map}
use Rattle.type_reader_run.specs.Outputs.{id_line}
use Rattle.type_reader_run.proofs.pruning.lines_of.Given as goal

abbrev pub invariant-loop-old : goal.invariant-loop-old
invariant-loop-old l =
    string_bytes l.out ++ flat_map id_line l.old-iterator ≡ flat_map id_line l.new_ids.entries
