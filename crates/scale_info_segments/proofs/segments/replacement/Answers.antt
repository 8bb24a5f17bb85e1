use Rattle.std.proofs.Common.{refl, sym, ◌∙◌}
use Rattle.scale_info_segments.proofs.TypePaths.{replaced_here, replaced_later, replaced_never}
use Rattle.scale_info_segments.proofs.segments.replacement.Goals as goal

pub loop-from-init : goal.loop-from-init
loop-from-init c = refl

pub returns-then-eq : goal.returns-then-eq
returns-then-eq c =
    replaced_here c.args.pairs.now c.loop-from.from-index _ c.args.text.now c.loop-from-test.true c.loop-from.invariant
    (sym c.eq.ensures ∙ c.if-eq.true)

pub loop-from-preserved : goal.loop-from-preserved
loop-from-preserved c =
    replaced_later c.args.pairs.now c.loop-from.from-index _ c.args.text.now c.loop-from-test.true c.loop-from.invariant
    (sym c.eq.ensures ∙ c.if-eq.false)

pub returns : goal.returns
returns c =
    replaced_never c.args.pairs.now c.loop-from.from-index c.args.text.now c.loop-from-test.false c.loop-from.invariant
