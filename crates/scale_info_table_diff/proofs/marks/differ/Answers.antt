use Rattle.std.proofs.Common.{rules, arith, ◌≡◌, ◌∙◌, Some, ap, slice_get, sym, subst, ℕ}
use Rattle.std.proofs.lemmas.Grind.{common_steps}
use Rattle.std.proofs.lemmas.Option.{gets, same_Some}
use Rattle.scale_info_table_diff.specs.Differing.{AreNeverPaired}
use Rattle.scale_info_table_diff.proofs.marks.differ.Goals as goal

pub returns-in-Some-get : goal.returns-in-Some-get
returns-in-Some-get c = λ yes types others are.
    let marks = c.args.found.now.marks.items in
    let at : slice_get marks c.in-Some.number ≡ Some c.in-Some-get.mark.now =
    grind (arith, common_steps, gets, rules, c.in-Some-get.ensures.lookup, c.deref.ensures.value) in
    let found = are c.in-Some.number (at ∙ ap Some yes) in
    subst (λ (pair : ℕ × ℕ). AreNeverPaired types others pair.0 pair.1)
    (same_Some found.0 (c.args.id, c.args.other) (sym found.1 ∙ c.in-Some.ensures)) found.2
