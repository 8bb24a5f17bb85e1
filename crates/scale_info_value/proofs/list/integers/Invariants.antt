use Rattle.std.proofs.Common.{◌≡◌, ◌-◌, ◌*◌, ◌≤◌, length, vec_len, vec_capacity}
use Rattle.scale_info_value.specs.ValueDefinitions.{primitive}
use Rattle.scale_info_value.proofs.InOrder.{Done}
use Rattle.scale_info_value.proofs.list.integers.Given as goal

abbrev pub invariant-loop : goal.invariant-loop
invariant-loop l = record {
  done : Done l.count (primitive l.kind) l.input l.counter l.values.items l.rest;
  there : (l.count - l.counter) * l.width ≤ length l.rest;
  long : vec_len l.values ≡ l.counter;
  room : l.count ≤ vec_capacity l.values;
}
