use Rattle.std.proofs.Common.{◌≡◌, map}
use Rattle.example_callers.specs.Signing.{with_amount}
use Rattle.example_callers.proofs.signing.fields_with.Given as goal

abbrev pub invariant-loop-field : goal.invariant-loop-field
invariant-loop-field l = l.changed ≡ map (with_amount l.amount) l.yielded
