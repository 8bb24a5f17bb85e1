use Rattle.std.proofs.Common.{rules, ◌≡◌, ◌≢◌, ◌++◌, ◌+◌, ℕ, Vec, suc, [], Some, slice_get, get_or}
use Rattle.std.proofs.Common.{arith}
use Rattle.std.proofs.Common.{ap, subst, sym, ◌∙◌, IsTrue, Global}
use Rattle.std.specs.List.{remove}
use Rattle.std.proofs.lemmas.List.Edits.{get_or-remove_below}
use Rattle.std.proofs.lemmas.Option.{slice_get_within, get_or_from_slice_get}
use Rattle.scale_info_interner.proofs.Chunks.{merge_joined, merge_filled, filled_at, filled_before}
use Rattle.scale_info_interner.proofs.order.merge_next.Given as given
use Rattle.scale_info_interner.proofs.order.merge_next.Goals as goal

-- the chunk and the next
record Both (g : given.Over) (c : goal.After-drop-next g) : Type 0 where
  first : Vec ℕ Global
  next : Vec ℕ Global
  here : slice_get c.args.chunks.now.items c.args.chunk ≡ Some first
  there : slice_get c.args.chunks.now.items (suc c.args.chunk) ≡ Some next
  made : c.remove-next.new.self.items ≡ remove c.args.chunks.now.items (suc c.args.chunk)
  joined : c.extend_from_slice.new.self.items ≡ first.items ++ next.items

both : (g : given.Over) (c : goal.After-drop-next g) → Both g c
both g c =
    let vs = c.args.chunks.now.items in
    let i = c.args.chunk in
    let small : IsTrue c.is_small_with_next.result = search rules in
    let (first, next, at, behind, room) = c.is_small_with_next.ensures small in
    let here : slice_get vs i ≡ Some first = subst (λ t. slice_get t i ≡ Some first) c.deref.ensures.value at in
    let step : i + 1 ≡ suc i = omega arith in
    let there : slice_get vs (suc i) ≡ Some next =
    subst (λ k. slice_get vs k ≡ Some next) step
    (subst (λ t. slice_get t (i + 1) ≡ Some next) c.deref.ensures.value behind) in
    let gone : c.remove-next.new.self.items ≡ remove vs (i + 1) = search rules in
    let made = gone ∙ ap (λ k. remove vs k) step in
    let within = slice_get_within vs (suc i) next there in
    let taken : c.remove-next.result ≡ next =
    c.remove-next.ensures.value ∙ ap (λ k. get_or vs k c.remove-next.result) step
    ∙ get_or_from_slice_get vs (suc i) next c.remove-next.result there in
    let held : c.index_mut.result.now ≡ first =
    c.index_mut.ensures.value ∙ ap (λ t. get_or t i c.index_mut.result.now) made
    ∙ get_or-remove_below vs (suc i) c.index_mut.result.now i (omega arith) within
    ∙ get_or_from_slice_get vs i first c.index_mut.result.now here in
    let more : c.extend_from_slice.new.self.items ≡ c.index_mut.result.now.items ++ c.remove-next.result.items =
    search rules in
    record {
      first = first;
      next = next;
      here = here;
      there = there;
      made = made;
      joined = more ∙ ap (λ t. t.items ++ c.remove-next.result.items) held ∙ ap (λ t. first.items ++ t.items) taken;
    }

pub returns-clause-joined : goal.returns-clause-joined
returns-clause-joined g c =
    let b = both g c in
    rw b.made (merge_joined (λ v. v.items) c.args.chunks.now.items c.args.chunk b.first
    c.extend_from_slice.new.self b.next b.here b.there b.joined)

pub returns-clause-filled : goal.returns-clause-filled
returns-clause-filled g c = λ all.
    let b = both g c in
    let some : c.extend_from_slice.new.self.items ≢ [] =
    subst (λ t. t ≢ []) (sym b.joined) (filled_before b.first.items b.next.items
    (filled_at (λ v. v.items) (λ v. v ≢ []) c.args.chunks.now.items c.args.chunk b.first all b.here)) in
    rw b.made (merge_filled (λ v. v.items) (λ v. v ≢ []) c.args.chunks.now.items c.args.chunk
    c.extend_from_slice.new.self some all)
