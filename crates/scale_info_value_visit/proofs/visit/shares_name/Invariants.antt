use Rattle.std.proofs.Common.{◌≡◌, ◌+◌, drop, cond, nat_lt}
use Rattle.std.specs.List.{count_by}
use Rattle.std.specs.Str.{bytes_eq}
use Rattle.scale_info_value_visit.specs.Events.{is_shared}
use Rattle.scale_info_value_visit.proofs.visit.shares_name.Given as goal

abbrev pub invariant-loop-other : goal.invariant-loop-other
invariant-loop-other l =
    is_shared l.choice l.variant.name
    ≡ nat_lt 1 (cond l.found 1 0 + count_by (λ v. bytes_eq v.name l.variant.name) (drop l.other-index l.choice))
