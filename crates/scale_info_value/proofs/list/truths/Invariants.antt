use Rattle.std.proofs.Common.{◌≡◌, ◌≤◌, vec_len, vec_capacity}
use Rattle.scale_info_value.specs.ValueDefinitions.{truth}
use Rattle.scale_info_value.proofs.InOrder.{Done}
use Rattle.scale_info_value.proofs.list.truths.Given as goal

abbrev pub invariant-loop : goal.invariant-loop
invariant-loop l = record {
  done : Done l.count truth l.input l.counter l.values.items l.rest;
  long : vec_len l.values ≡ l.counter;
  room : l.count ≤ vec_capacity l.values;
}
