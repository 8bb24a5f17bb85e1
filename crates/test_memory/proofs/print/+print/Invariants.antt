use Rattle.std.proofs.Common.{◌+◌, ◌*◌}
use Rattle.test_memory.proofs.print.+print.Given as goal

abbrev pub decreases-print_value : goal.decreases-print_value
decreases-print_value g l = 3 * l.depth

abbrev pub decreases-print_values : goal.decreases-print_values
decreases-print_values g l = 3 * l.depth + 1

abbrev pub decreases-print_fields : goal.decreases-print_fields
decreases-print_fields g l = 3 * l.depth + 2

abbrev pub decreases-print_field : goal.decreases-print_field
decreases-print_field g l = 3 * l.depth + 1
