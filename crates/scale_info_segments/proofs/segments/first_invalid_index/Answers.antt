use Rattle.scale_info_segments.proofs.TypePaths.{bad_here, identifiers_all, identifiers_more}
use Rattle.scale_info_segments.specs.Identifiers.{IsIdentifier}
use Rattle.std.proofs.lemmas.List.Elements.{All-nil}
use Rattle.scale_info_segments.proofs.segments.first_invalid_index.Goals as goal

pub loop-place-init : goal.loop-place-init
loop-place-init c = All-nil IsIdentifier

pub returns-then-not-is_rust_identifier-clause-bad :
    goal.returns-then-not-is_rust_identifier-clause-bad
returns-then-not-is_rust_identifier-clause-bad c =
    bad_here c.args.strings.now c.loop-place.place _ c.loop-place-test.true c.loop-place.invariant
    (λ is. let yes = c.if-not-is_rust_identifier.ensures.1 is in cc)

pub loop-place-preserved : goal.loop-place-preserved
loop-place-preserved c =
    identifiers_more c.args.strings.now c.loop-place.place _ c.loop-place-test.true c.loop-place.invariant
    (c.is_rust_identifier.ensures.0 c.if-not-is_rust_identifier.false)

pub returns-clause-good : goal.returns-clause-good
returns-clause-good c =
    λ _.
    identifiers_all c.args.strings.now c.loop-place.place c.loop-place-test.false c.loop-place.invariant
