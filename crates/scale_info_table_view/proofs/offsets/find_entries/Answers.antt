use Rattle.std.proofs.Common.{◌∙◌, ◌++◌, ◌∷◌, [], ap, arith}
use Rattle.scale_info_bytes.proofs.Lists.{no_count}
use Rattle.scale_info_bytes.proofs.Steps.{no_prefix_through}
use Rattle.scale_info_grammar.specs.Ty.{EncodesPortableType}
use Rattle.scale_info_table_view.proofs.EntriesFound.{none_passed, one_passed, no_table, all_passed}
use Rattle.scale_info_table_view.proofs.offsets.find_entries.Goals as goal

pub returns-in_default-clause-malformed : goal.returns-in_default-clause-malformed
returns-in_default-clause-malformed c =
    no_prefix_through (λ v. v.types) (no_count EncodesPortableType _ c.in_default.ensures.none)

pub loop-init : goal.loop-init
loop-init c = none_passed _ _ _ _ c.new-offsets.ensures.items c.in-Some.ensures.some

pub returns-in_default-skip-clause-malformed : goal.returns-in_default-skip-clause-malformed
returns-in_default-skip-clause-malformed c =
    no_table _ _ _ _ _ c.loop-test.true c.loop.invariant c.in_default-skip.ensures.none

pub loop-preserved : goal.loop-preserved
loop-preserved c =
    one_passed _ _ _ _ _ _ _ c.loop.invariant c.in-Some-skip.ensures.some
    (c.in_ok-push.ensures.items ∙ ap (λ o. c.loop.offsets.items ++ o ∷ []) c.saturating_sub.ensures)

pub returns-clause-ok : goal.returns-clause-ok
returns-clause-ok c = all_passed _ _ _ _ _ (omega arith) c.loop.invariant
