use Rattle.std.proofs.Common.{ap, length, subst, arith, ◌∙◌, ◌++◌, ◌∷◌, []}
use Rattle.scale_info_passes.specs.Entries.{IsEntryIndex}
use Rattle.scale_info_passes.proofs.Offsets.{one_indexed, no_index, no_entry, no_number}
use Rattle.scale_info_passes.proofs.Offsets.{no_description}
use Rattle.scale_info_passes.proofs.entries.index_entries.Goals as goal

pub loop-init : goal.loop-init
loop-init c =
    no_index _ _ _ _ c.new-offsets.ensures.items c.new-starts.ensures.items c.new-references.ensures.items

pub returns-in-None-clause-none : goal.returns-in-None-clause-none
returns-in-None-clause-none c =
    no_entry c.args.count c.loop.counter _ _ _ c.loop-test.true c.loop.invariant.at
    (no_number c.in-None.ensures.none)

pub returns-in-None-2-clause-none : goal.returns-in-None-2-clause-none
returns-in-None-2-clause-none c =
    no_entry c.args.count c.loop.counter _ _ _ c.loop-test.true c.loop.invariant.at
    (no_description c.in-Some.ensures.some (rw c.in-None-2.is at c.in_ok-gather-in-Some.ensures.none))

pub loop-preserved : goal.loop-preserved
loop-preserved c =
    one_indexed c.loop.invariant c.in-Some.ensures.some
    (rw c.in-Some-2.is at c.in_ok-gather-in-Some.ensures.some)
    (c.in_ok-push-in-Some.ensures.items ∙ ap (λ m. c.loop.offsets.items ++ m ∷ []) c.saturating_sub.ensures)
    (c.in_ok-push-in-Some-2.ensures.items ∙ ap (λ m. c.loop.starts.items ++ m ∷ []) (ap length c.as_slice.ensures.value))

pub returns-clause-some : goal.returns-clause-some
returns-clause-some c =
    subst
    (λ n. IsEntryIndex n c.args.input.now c.loop.rest.now c.loop.offsets.items c.loop.starts.items c.loop.references.items)
    (omega arith) c.loop.invariant
