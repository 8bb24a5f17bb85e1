use Rattle.std.proofs.Common.{rules, ◌≡◌, ◌≢◌, [], ◌∙◌, arith, set}
use Rattle.std.specs.List.{remove}
use Rattle.std.proofs.lemmas.Grind.{common_steps}
use Rattle.std.proofs.lemmas.List.{nil_from_length}
use Rattle.scale_info_interner.proofs.Chunks.{removed_joined, dropped_joined, dropped_filled}
use Rattle.scale_info_interner.proofs.Chunks.{set_filled, some_items}
use Rattle.scale_info_interner.proofs.order.remove.Goals as goal

pub returns-then-is_empty-clause-joined : goal.returns-then-is_empty-clause-joined
returns-then-is_empty-clause-joined g c = λ index rest e.
    let vs = c.args.chunks.now.items in
    let i = c.args.place.chunk in
    let none : c.remove.new.self.items ≡ [] =
    nil_from_length c.remove.new.self.items
    (grind (arith, common_steps, rules, c.if-is_empty.ensures, c.remove.new.self.ok.0)) in
    let gone : c.remove-then-is_empty.new.self.items ≡ remove (set vs i c.remove.new.self) i =
    search rules in
    rw gone (dropped_joined (λ v. v.items) vs i c.remove.new.self none
    ∙ removed_joined (λ v. v.items) vs i c.args.place.at index c.remove.result rest c.requires.0
    c.index_mut-chunk.result.now c.remove.new.self c.requires.1 c.requires.2
    c.index_mut-chunk.ensures.value c.remove.ensures.value c.remove.ensures.items e)

pub returns-then-is_empty-clause-filled : goal.returns-then-is_empty-clause-filled
returns-then-is_empty-clause-filled g c = λ all.
    let vs = c.args.chunks.now.items in
    let i = c.args.place.chunk in
    let gone : c.remove-then-is_empty.new.self.items ≡ remove (set vs i c.remove.new.self) i =
    search rules in
    rw gone (dropped_filled (λ v. v.items) (λ v. v ≢ []) vs i c.remove.new.self all)

pub returns-else-is_empty-clause-joined : goal.returns-else-is_empty-clause-joined
returns-else-is_empty-clause-joined g c = λ index rest e.
    removed_joined (λ v. v.items) c.args.chunks.now.items c.args.place.chunk c.args.place.at index
    c.remove.result rest c.requires.0 c.index_mut-chunk.result.now c.remove.new.self c.requires.1
    c.requires.2 c.index_mut-chunk.ensures.value c.remove.ensures.value c.remove.ensures.items e

pub returns-else-is_empty-clause-filled : goal.returns-else-is_empty-clause-filled
returns-else-is_empty-clause-filled g c = λ all.
    let some : c.remove.new.self.items ≢ [] = λ e.
    some_items c.remove.new.self.items
    (grind (arith, common_steps, rules, c.if-is_empty.ensures, c.remove.new.self.ok.0)) e in
    set_filled (λ v. v.items) (λ v. v ≢ []) c.args.chunks.now.items c.args.place.chunk
    c.remove.new.self some all
