use Rattle.std.proofs.Common.{arith, ◌≡◌, ◌++◌, ◌∷◌, [], ◌∙◌, sym, ap, refl, subst, length, take}
use Rattle.std.proofs.Common.{get_or, Some, slice_get, List, ℕ, ◌+◌, Contains, set}
use Rattle.std.proofs.lemmas.List.{take_more, length-set}
use Rattle.std.proofs.lemmas.Option.{slice_get_read}
use Rattle.scale_info_references.specs.Conversions.{number_of}
use Rattle.scale_info_types.specs.declared.ty.PortableType.{PortableType}
use Rattle.scale_info_walk.specs.Kept.{AreKept}
use Rattle.scale_info_table.proofs.Moved.{kept_more, not_before, others_stay}
use Rattle.scale_info_table.proofs.retain.kept_entries.Goals as goal

pub loop-index-preserved : goal.loop-index-preserved
loop-index-preserved c =
    let types = c.args.types.items in
    let order = c.args.order.now in
    let numbers = c.args.numbers.now in
    let all = c.loop-index.types.items in
    let kept = c.loop-index.kept.items in
    let i = c.loop-index.index-index in
    let key = get_or order i 0 in
    let old = c.replace-old.result in
    let new : PortableType = record { id = c.len-id.result; ty = c.renumbered-ty.result } in
    let before = c.loop-index.invariant in
    let within = c.requires.within i 0 c.loop-index-test.true in
    let long = before.long in
    let entry = c.index_mut.result.now in
    let now : slice_get all key ≡ Some entry =
    slice_get_read all (length all) key entry refl (omega arith) c.index_mut.ensures.value in
    let at : slice_get types key ≡ Some old =
    sym (before.others key (not_before order i 0 c.requires.distinct c.loop-index-test.true))
    ∙ (now ∙ ap Some (sym c.replace-old.ensures.value)) in
    let n = c.loop-index.kept.ok.0 in
    let q = c.len-id.ensures in
    let id : c.len-id.result ≡ length kept = omega arith in
    let more : take (i + 1) order ≡ take i order ++ key ∷ [] = take_more order i 0 c.loop-index-test.true in
    let set_long = length-set all key c.replace-old.new.dest in
    record {
      kept = subst (λ os. AreKept types os (number_of numbers) c.push_reserved.new.self.items) (sym more)
          (subst (λ (xs : List PortableType). AreKept types (take i order ++ key ∷ []) (number_of numbers) xs) (sym c.push_reserved.ensures.items)
          (kept_more types (take i order) (number_of numbers) kept key old new at
          (λ j. record { id = id j; ty = c.renumbered-ty.ensures j }) before.kept));
      others = subst (λ (os : List ℕ). (k : ℕ) → ¬ (Contains os k) → slice_get (set all key c.replace-old.new.dest) k ≡ slice_get types k) (sym more)
          (others_stay types all (take i order) key c.replace-old.new.dest before.others);
      long = omega arith;
      room = let room = before.room in let stays = c.push_reserved.ensures.capacity in omega arith;
    }
