use Rattle.std.proofs.Common.{rules, ◌<◌, length, ap, arith, ◌≡◌, ◌∙◌, Some, refl}
use Rattle.std.proofs.lemmas.Grind.{common_steps}
use Rattle.std.proofs.lemmas.Iterator.Adapters.{YieldsList-from_vec}
use Rattle.std.proofs.lemmas.Iterator.Consumers.{YieldsList-turn}
use Rattle.std.specs.Vec.Iter.{into_iter_len}
use Rattle.scale_info_types.proofs.Iterators.{drained}
use Rattle.scale_info_table.specs.BuiltTables.{numbered_from}
use Rattle.scale_info_table.proofs.Interned.{length_numbered, numbered_push}
use Rattle.scale_info_table.proofs.portable.entries.of_descriptions.Goals as goal

pub push_entry-requires : goal.push_entry-requires
push_entry-requires c =
    let count_is : into_iter_len c.into_iter-ty-iterator.result ≡ length c.args.types.items = search rules in
    let road = YieldsList-from_vec c.args.types.items c.into_iter-ty-iterator.ensures.into_iter_gives.0 count_is in
    let turn =
    YieldsList-turn road c.loop-ty.yielded c.loop-ty.ty-iterator c.loop-ty.yielded_by (Some c.in-Some.ty)
    c.next.new.self c.in-Some.ty refl c.in-Some.ensures.steps in
    let short : length c.loop-ty.yielded < length c.args.types.items = turn.0 in
    let count = ap length c.loop-ty.invariant ∙ length_numbered 0 c.loop-ty.yielded in
    let bound = c.requires in
    omega (arith, short, count, bound)

pub loop-ty-preserved : goal.loop-ty-preserved
loop-ty-preserved c = grind (arith, common_steps, rules, numbered_push, length_numbered)

pub returns : goal.returns
returns c =
    let ends = rw c.in-None.is at c.next.ensures.steps in
    c.loop-ty.invariant
    ∙ ap (λ xs. numbered_from 0 xs)
    (drained c.into_iter-ty-iterator.result c.args.types.items c.loop-ty.yielded
    c.into_iter-ty-iterator.ensures.into_iter_gives.0 (search rules)
    (c.next.new.self, (c.loop-ty.ty-iterator, c.loop-ty.yielded_by, ends)))
