use Rattle.std.proofs.Common.{◌∷◌, map, take, length}
use Rattle.scale_info_value_visit.specs.Events.{begin_list, unsigned}
use Rattle.scale_info_value_visit.proofs.visitor.ValueVisitor.bytes_one_by_one.Given as goal

abbrev pub invariant-loop-byte : goal.invariant-loop-byte
invariant-loop-byte g l =
    g.Self.ValueVisitor.visited (begin_list (length l.all) ∷ map unsigned (take l.byte-index l.all)) l.fn.self l.self
