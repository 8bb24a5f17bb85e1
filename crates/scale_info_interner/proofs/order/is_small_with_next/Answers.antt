use Rattle.std.proofs.Common.{rules, ◌+◌, ◌≤◌, ◌≡◌, Some, slice_get, vec_capacity, vec_len, arith}
use Rattle.std.proofs.lemmas.Grind.{common_steps}
use Rattle.std.proofs.lemmas.Option.{gets}
use Rattle.scale_info_interner.proofs.order.is_small_with_next.Goals as goal

pub returns-in-Some-checked_sub : goal.returns-in-Some-checked_sub
returns-in-Some-checked_sub c = λ fits.
    let first = c.in-Some.first.now in
    let next = c.in-Some-get.next.now in
    let here : slice_get c.args.chunks.now c.args.chunk ≡ Some first =
    grind (arith, common_steps, gets, rules, c.in-Some.ensures.lookup) in
    let behind : slice_get c.args.chunks.now (c.args.chunk + 1) ≡ Some next =
    grind (arith, common_steps, gets, rules, c.in-Some-get.ensures.lookup) in
    let room : vec_len first + vec_len next ≤ vec_capacity first = search rules in
    (first, next, here, behind, room)
