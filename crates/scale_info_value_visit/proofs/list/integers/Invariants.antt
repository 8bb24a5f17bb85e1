use Rattle.std.proofs.Common.{◌-◌, ◌*◌, ◌≤◌, length, replicate}
use Rattle.scale_info_value_visit.specs.Reads.{each, primitive_read}
use Rattle.scale_info_value_visit.proofs.Visiting.{IsAt}
use Rattle.scale_info_value_visit.proofs.list.integers.Given as goal

abbrev pub invariant-loop : goal.invariant-loop
invariant-loop g l = record {
  visiting :
      IsAt g.V.ValueVisitor.visited (each (replicate l.count (primitive_read l.kind)) l.input)
      (each (replicate (l.count - l.counter) (primitive_read l.kind)) l.rest) l.fn.visitor l.visitor;
  there : (l.count - l.counter) * l.width ≤ length l.rest;
}
