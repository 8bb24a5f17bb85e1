use Rattle.std.proofs.Common.{◌<◌, ◌≤◌, ◌∙◌, refl, sym, length, arith}
use Rattle.std.proofs.lemmas.Bool.{false≢true}
use Rattle.scale_info_segments.specs.TypePaths.{texts}
use Rattle.scale_info_table_view.proofs.PathsFound.{all_read, as_long, found_other, found_same, borrowed_at}
use Rattle.scale_info_table_view.proofs.PathsFound.{no_text, one_read, other_text}
use Rattle.scale_info_table_view.proofs.path.has_segments.Goals as goal

pub returns-in_default : goal.returns-in_default
returns-in_default c = λ strings end long whole.
    let borrowed = as_long c.args.path.now in
    let inside : c.loop-segment.segment-index < length (texts c.args.path.now) = omega arith in
    absurd (no_text strings (texts c.args.path.now) c.loop-segment.segment-index c.loop-segment.rest.now end (long ∙ sym borrowed) inside
    (c.loop-segment.invariant strings end long whole) c.in_default.ensures.none)

pub returns-then-ne : goal.returns-then-ne
returns-then-ne c = λ strings end long whole.
    let borrowed = as_long c.args.path.now in
    let inside : c.loop-segment.segment-index < length (texts c.args.path.now) = omega arith in
    let at = borrowed_at c.args.path.now c.loop-segment.segment-index _ c.loop-segment-test.true in
    let differs = found_other c.in-Some.text.now _ c.ne.result c.ne.ensures c.if-ne.true in
    let other =
    other_text strings (texts c.args.path.now) c.loop-segment.segment-index c.loop-segment.rest.now c.in-Some.after.now end c.in-Some.text.now (long ∙ sym borrowed) inside
    (c.loop-segment.invariant strings end long whole) c.in-Some.ensures.some (λ is. differs (is ∙ at)) in
    (λ yes. absurd (false≢true yes), λ same. absurd (other same))

pub loop-segment-preserved : goal.loop-segment-preserved
loop-segment-preserved c = λ strings end long whole.
    let borrowed = as_long c.args.path.now in
    let inside : c.loop-segment.segment-index < length (texts c.args.path.now) = omega arith in
    let at = borrowed_at c.args.path.now c.loop-segment.segment-index _ c.loop-segment-test.true in
    one_read strings (texts c.args.path.now) c.loop-segment.segment-index c.loop-segment.rest.now c.in-Some.after.now end c.in-Some.text.now (long ∙ sym borrowed) inside
    (c.loop-segment.invariant strings end long whole) c.in-Some.ensures.some
    (found_same c.in-Some.text.now _ c.ne.result c.ne.ensures c.if-ne.false ∙ sym at)

pub returns : goal.returns
returns c = λ strings end long whole.
    let borrowed = as_long c.args.path.now in
    let past : length (texts c.args.path.now) ≤ c.loop-segment.segment-index = omega arith in (
      λ yes. all_read strings (texts c.args.path.now) c.loop-segment.segment-index c.loop-segment.rest.now end (long ∙ sym borrowed) past
          (c.loop-segment.invariant strings end long whole),
      λ same. refl,
    )
