use Rattle.std.proofs.Common.{rules, length, ap, arith}
use Rattle.std.proofs.lemmas.Grind.{common_steps}
use Rattle.scale_info_table.proofs.Interned.{length_numbered, numbered_push}
use Rattle.scale_info_table.proofs.portable.entries.copies_of.Goals as goal

pub push_copy-requires : goal.push_copy-requires
push_copy-requires c =
    let count = ap length c.loop-ty.invariant in
    let bound = c.requires in
    grind (arith, common_steps, length_numbered, count, bound)

pub loop-ty-preserved : goal.loop-ty-preserved
loop-ty-preserved c = grind (arith, common_steps, rules, numbered_push, length_numbered)

pub returns : goal.returns
returns c = grind (arith, common_steps, rules)
