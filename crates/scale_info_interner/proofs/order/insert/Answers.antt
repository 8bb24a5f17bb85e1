use Rattle.std.proofs.Common.{rules, ◌≡◌, ◌≢◌, ◌++◌, ◌∷◌, [], Some, None, slice_get, take, drop}
use Rattle.std.proofs.Common.{arith, subst, sym}
use Rattle.std.specs.List.{insert}
use Rattle.std.proofs.lemmas.Grind.{common_steps}
use Rattle.std.proofs.lemmas.Option.{gets, slice_get_past}
use Rattle.scale_info_interner.proofs.Chunks.{insert_joined, push_joined, same_rows, set_filled}
use Rattle.scale_info_interner.proofs.Chunks.{filled_insert}
use Rattle.scale_info_interner.proofs.order.insert.Goals as goal

pub returns-in_err-insert-in-Some-clause-err : goal.returns-in_err-insert-in-Some-clause-err
returns-in_err-insert-in-Some-clause-err c =
    let there : slice_get c.args.chunks.now.items c.args.place.chunk ≡ Some c.in-Some.chunk.now =
    grind (arith, common_steps, gets, rules, c.in-Some.ensures.value, c.in-Some.ensures.item) in
    let same : c.insert.new.self.items ≡ c.in-Some.chunk.now.items = search rules in
    search (rules, same_rows (λ v. v.items) c.args.chunks.now.items c.args.place.chunk c.in-Some.chunk.now c.insert.new.self there same)

pub returns-in_ok-insert-in-Some-clause-ok : goal.returns-in_ok-insert-in-Some-clause-ok
returns-in_ok-insert-in-Some-clause-ok c =
    let there : slice_get c.args.chunks.now.items c.args.place.chunk ≡ Some c.in-Some.chunk.now =
    grind (arith, common_steps, gets, rules, c.in-Some.ensures.value, c.in-Some.ensures.item) in
    let made : c.insert.new.self.items ≡ insert c.in-Some.chunk.now.items c.args.place.at c.args.index = search rules in
    insert_joined (λ v. v.items) c.args.chunks.now.items c.args.place.chunk c.args.place.at c.args.index
    c.in-Some.chunk.now c.insert.new.self there made

pub returns-in_ok-insert-in-Some-clause-filled : goal.returns-in_ok-insert-in-Some-clause-filled
returns-in_ok-insert-in-Some-clause-filled c =
    let made : c.insert.new.self.items ≡ insert c.in-Some.chunk.now.items c.args.place.at c.args.index = search rules in
    λ all. set_filled (λ v. v.items) (λ v. v ≢ []) c.args.chunks.now.items c.args.place.chunk c.insert.new.self
    (subst (λ t. t ≢ []) (sym made) (filled_insert (take c.args.place.at c.in-Some.chunk.now.items) c.args.index (drop c.args.place.at c.in-Some.chunk.now.items))) all

pub returns-in_ok-push-in-None-clause-ok : goal.returns-in_ok-push-in-None-clause-ok
returns-in_ok-push-in-None-clause-ok c =
    let there : slice_get c.args.chunks.now.items c.args.place.chunk ≡ None =
    grind (arith, common_steps, gets, rules, c.in-None.ensures.variant, slice_get_past) in
    let one : c.in_ok-alone-in-None.field-0.items ≡ c.args.index ∷ [] = search rules in
    let made : c.push.new.self.items ≡ c.args.chunks.now.items ++ c.in_ok-alone-in-None.field-0 ∷ [] = search rules in
    rw made (push_joined (λ v. v.items) c.args.chunks.now.items c.args.place.chunk c.args.place.at c.args.index
    c.in_ok-alone-in-None.field-0 there one)
