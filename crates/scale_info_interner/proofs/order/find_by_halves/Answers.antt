use Rattle.std.proofs.Common.{rules, ◌≡◌, ◌<◌, ◌+◌, Some, slice_get, length, map, arith, inl, inr}
use Rattle.std.proofs.Common.{subst, refl}
use Rattle.std.proofs.lemmas.Bool.{cases_lt}
use Rattle.std.proofs.lemmas.Option.{slice_get_read}
use Rattle.scale_info_interner.proofs.Orders.{gap_first, gap_within}
use Rattle.scale_info_interner.proofs.Chunks.{row_there}
use Rattle.scale_info_interner.proofs.order.find_by_halves.Goals as goal

pub returns-in_default-clause-absent : goal.returns-in_default-clause-absent
returns-in_default-clause-absent g c =
    let none : c.chunks_before.result ≡ 0 = elim (cases_lt 0 c.chunks_before.result)
    [ inl l ↦ absurd (c.in_default.ensures l) | inr l ↦ omega (arith, l) ] in
    gap_first g.met.T.Ord.total c.args.elements.now (map (λ v. v.items) c.args.chunks.now)
    c.args.value.now c.requires
    (λ chunk p. c.chunks_before.ensures.past chunk (rw none p))

pub returns-in-Ok-clause-found : goal.returns-in-Ok-clause-found
returns-in-Ok-clause-found g c =
    let v = c.index-chunks-chunk.result in
    let bound = c.chunks_before.ensures.bound in
    let within : c.in-Some.chunk < length c.args.chunks.now =
    grind (arith, rules, bound, c.in-Some.ensures) in
    let there = slice_get_read c.args.chunks.now _ c.in-Some.chunk v refl within c.index-chunks-chunk.is in
    let found = c.in-Ok.ensures.found in
    record {
      chunk = v.items;
      index = found.0;
      there = row_there (λ w. w.items) c.args.chunks.now c.in-Some.chunk v there;
      here = subst (λ t. slice_get t c.in-Ok.at ≡ Some found.0) c.deref.ensures.value found.1;
      equal = found.2;
    }

pub returns-in-Err-clause-absent : goal.returns-in-Err-clause-absent
returns-in-Err-clause-absent g c =
    let v = c.index-chunks-chunk.result in
    let bound = c.chunks_before.ensures.bound in
    let next : c.chunks_before.result ≡ c.in-Some.chunk + 1 = grind (arith, rules, c.in-Some.ensures) in
    let within : c.in-Some.chunk < length c.args.chunks.now =
    grind (arith, rules, bound, c.in-Some.ensures) in
    let there =
    row_there (λ w. w.items) c.args.chunks.now c.in-Some.chunk v
    (slice_get_read c.args.chunks.now _ c.in-Some.chunk v refl within c.index-chunks-chunk.is) in
    let is = c.deref.ensures.value in
    gap_within g.met.T.Ord.total c.args.elements.now (map (λ w. w.items) c.args.chunks.now)
    c.args.value.now c.in-Some.chunk c.in-Err.at v.items c.requires there
    (rw (← is) c.in-Err.ensures.bound)
    (λ i index e p. c.in-Err.ensures.less i index e (rw is p))
    (λ index p. c.in-Err.ensures.greater index (rw is p))
    (c.chunks_before.ensures.upto c.in-Some.chunk v.items next there)
    (λ chunk p. c.chunks_before.ensures.past chunk
    (subst (λ n. slice_get (map (λ w. w.items) c.args.chunks.now) n ≡ Some chunk)
    (omega (arith, next)) p))
