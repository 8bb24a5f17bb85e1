use Rattle.std.proofs.Common.{rules, ◌≡◌, ◌≢◌, ◌+◌, ◌<◌, suc, [], Some, slice_get, take, drop}
use Rattle.std.proofs.Common.{length, get_or, arith, ap, ◌∙◌}
use Rattle.std.specs.List.{insert}
use Rattle.std.proofs.lemmas.Grind.{common_steps}
use Rattle.std.proofs.lemmas.List.Edits.{get_or-insert_below}
use Rattle.std.proofs.lemmas.List.{length-take-le, length-drop}
use Rattle.std.proofs.lemmas.Option.{gets, slice_get_within, get_or_from_slice_get}
use Rattle.scale_info_interner.proofs.Chunks.{split_joined, split_filled, some_items}
use Rattle.scale_info_interner.proofs.order.split_full.Given as given
use Rattle.scale_info_interner.proofs.order.split_full.Goals as goal

there : (g : given.Over) (c : goal.After-chunks-1 g) → slice_get c.args.chunks.now.items c.args.chunk ≡ Some c.in-Some.first.now
there g c = grind (arith, common_steps, gets, rules, c.in-Some.ensures.lookup, c.deref.ensures.value)

made : (g : given.Over) (c : goal.After-chunks-1 g) → c.insert.new.self.items ≡ insert c.args.chunks.now.items (suc c.args.chunk) c.in-Ok.second
made g c =
    let put : c.insert.new.self.items ≡ insert c.args.chunks.now.items (c.args.chunk + 1) c.in-Ok.second = search rules in
    let next : c.args.chunk + 1 ≡ suc c.args.chunk = omega arith in
    put ∙ ap (λ n. insert c.args.chunks.now.items n c.in-Ok.second) next

first_half : (g : given.Over) (c : goal.After-chunks-1 g) → c.truncate.new.self.items ≡ take c.in-Some-half_of_full.half c.in-Some.first.now.items
first_half g c =
    let vs = c.args.chunks.now.items in
    let i = c.args.chunk in
    let first = c.in-Some.first.now in
    let within = slice_get_within vs i first (there g c) in
    let same : c.index_mut.result.now ≡ first =
    c.index_mut.ensures.value
    ∙ ap (λ t. get_or t i c.index_mut.result.now) (made g c)
    ∙ get_or-insert_below vs (suc i) c.in-Ok.second c.index_mut.result.now i (omega arith)
    (omega (arith, within))
    ∙ get_or_from_slice_get vs i first c.index_mut.result.now (there g c) in
    c.truncate.ensures.items ∙ ap (λ t. take c.in-Some-half_of_full.half t.items) same

second_half : (g : given.Over) (c : goal.After-chunks-1 g) → c.in-Ok.second.items ≡ drop c.in-Some-half_of_full.half c.in-Some.first.now.items
second_half g c =
    c.in-Ok.ensures.items ∙ c.split_at.ensures.back ∙ ap (λ t. drop c.in-Some-half_of_full.half t) c.deref-2.ensures.value

inside : (g : given.Over) (c : goal.After-chunks-1 g) → (0 < c.in-Some-half_of_full.half)
    × (c.in-Some-half_of_full.half < length c.in-Some.first.now.items)
inside g c = search rules

pub returns-then-is_ok-clause-joined : goal.returns-then-is_ok-clause-joined
returns-then-is_ok-clause-joined g c =
    rw (made g c) (split_joined (λ v. v.items) c.args.chunks.now.items c.args.chunk
    c.in-Some-half_of_full.half c.in-Some.first.now c.truncate.new.self c.in-Ok.second (there g c)
    (first_half g c) (second_half g c))

pub returns-then-is_ok-clause-filled : goal.returns-then-is_ok-clause-filled
returns-then-is_ok-clause-filled g c = λ all.
    let items = c.in-Some.first.now.items in
    let half = c.in-Some-half_of_full.half in
    let above = (inside g c).0 in
    let below = (inside g c).1 in
    let short = length-take-le half items (omega (arith, below)) in
    let rest = length-drop half items in
    rw (made g c) (split_filled (λ v. v.items) (λ v. v ≢ []) c.args.chunks.now.items c.args.chunk
    c.truncate.new.self c.in-Ok.second
    (some_items c.truncate.new.self.items (rw (first_half g c) (omega (arith, short, above))))
    (some_items c.in-Ok.second.items (rw (second_half g c) (omega (arith, rest, below))))
    all (slice_get_within c.args.chunks.now.items c.args.chunk c.in-Some.first.now (there g c)))
