use Rattle.std.proofs.Common.{◌≤◌, vec_capacity, vec_len}
use Rattle.scale_info_table.specs.Pruned.{IsChosen}
use Rattle.scale_info_table.proofs.chosen.chosen_ids.Given as goal

abbrev pub invariant-loop-id : goal.invariant-loop-id
invariant-loop-id g l = record {
  callable : goal.F-IsAlwaysCallable g l.filter;
  chosen : IsChosen (goal.F-step g) l.fn.filter l.id l.chosen.items l.filter;
  short : vec_len l.chosen ≤ l.id;
  room : l.count ≤ vec_capacity l.chosen;
}
