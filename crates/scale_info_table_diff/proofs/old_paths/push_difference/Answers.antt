use Rattle.std.proofs.Common.{◌∙◌, ◌++◌, ◌∷◌, [], ap, sym}
use Rattle.scale_info_table_diff.proofs.CommonIds.{is_none, is_some}
use Rattle.scale_info_table_diff.proofs.Listed.{adds_one_changed, adds_one_removed}
use Rattle.scale_info_table_diff.specs.declared.change.Change.TheVariants.{Changed, Removed}
use Rattle.scale_info_table_diff.proofs.old_paths.push_difference.Goals as goal

pub returns-then-is_empty : goal.returns-then-is_empty
returns-then-is_empty c = λ types tells.
    let none = is_none c.ids_of.result.now c.is_empty.result c.is_empty.ensures c.if-is_empty.true in
    adds_one_removed types c.args.new.now c.args.path.now c.args.changes.now.items c.push.new.self.items
    (sym (c.ids_of.ensures) ∙ none)
    (c.in_ok-push.ensures.items ∙ ap (λ p. c.args.changes.now.items ++ Removed p ∷ []) c.in_ok-copy.ensures)

pub returns : goal.returns
returns c = λ types tells.
    let some = is_some c.ids_of.result.now c.is_empty.result c.is_empty.ensures c.if-is_empty.false in
    adds_one_changed types c.args.new.now c.args.path.now c.args.changes.now.items c.push-2.new.self.items
    (λ none. some (c.ids_of.ensures ∙ none))
    (tells (λ none. some (c.ids_of.ensures ∙ none)))
    (c.in_ok-push-2.ensures.items ∙ ap (λ p. c.args.changes.now.items ++ Changed p ∷ []) c.in_ok-copy.ensures)
