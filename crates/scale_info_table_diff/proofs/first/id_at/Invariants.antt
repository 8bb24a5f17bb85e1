use Rattle.std.proofs.Common.{◌≡◌, ℕ, Some}
use Rattle.std.specs.BTreeMap.{get, is_at}
use Rattle.std.specs.Map.{lookup}
use Rattle.std.specs.Ordering.{nat_cmp}
use Rattle.scale_info_table_diff.proofs.first.id_at.Given as goal

abbrev pub invariant-loop-id : goal.invariant-loop-id
invariant-loop-id l =
    (id : ℕ) → get nat_cmp l.places id ≡ Some l.place
    → lookup (is_at (nat_cmp id)) l.id-iterator ≡ Some l.place
