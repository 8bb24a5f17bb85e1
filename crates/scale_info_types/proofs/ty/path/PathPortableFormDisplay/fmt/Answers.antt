use Rattle.std.proofs.Common.{append-nil, refl, sym, ◌∙◌}
use Rattle.std.proofs.Output.{has_written_append, has_written_of_eq, has_written_styled_append}
use Rattle.std.proofs.Output.{has_written_styled_of_eq}
use Rattle.scale_info_segments.proofs.TypePaths.{joined_all, joined_more}
use Rattle.scale_info_types.proofs.ty.path.PathPortableFormDisplay.fmt.Goals as goal

pub loop-segment-init : goal.loop-segment-init
loop-segment-init g c =
    let shown = c.as_str.ensures ∙ sym (append-nil c.in-Some.first.now) in (
      c.in-Some.first.now,
      sym c.as_slice.ensures ∙ c.in-Some.ensures.cases.0,
      λ plain. has_written_of_eq _ _ _ _ _ shown (c.in_ok-write_str.ensures.writes plain refl),
      λ flush. has_written_styled_of_eq _ _ _ _ _ shown (c.in_ok-write_str.ensures.styled flush refl),
    )

pub loop-segment-preserved : goal.loop-segment-preserved
loop-segment-preserved g c =
    let so_far = c.loop-segment.invariant in
    let more =
    joined_more so_far.0 c.in-Some.others.now c.loop-segment.segment-index c.segment-item.result _ c.loop-segment-test.true
    c.segment-item.is c.as_str-in-loop-segment.ensures in (
      so_far.0,
      so_far.1,
      λ plain.
          let before = so_far.2 plain in
          let between = c.in_ok-write_str-2.ensures.writes before.plain refl in
          let after = c.in_ok-write_str-3.ensures.writes between.plain refl in
          has_written_of_eq _ _ _ _ _ more
          (has_written_append _ _ _ _ _ _ before (has_written_append _ _ _ _ _ _ between after)),
      λ flush.
          let before = so_far.3 flush in
          let between = c.in_ok-write_str-2.ensures.styled before.flush refl in
          let after = c.in_ok-write_str-3.ensures.styled between.flush refl in
          has_written_styled_of_eq _ _ _ _ _ more
          (has_written_styled_append _ _ _ _ _ _ before (has_written_styled_append _ _ _ _ _ _ between after)),
    )

pub returns-after-loop-segment : goal.returns-after-loop-segment
returns-after-loop-segment g c =
    let so_far = c.loop-segment.invariant in
    let all =
    joined_all c.args.self.now.segments c.in-Some.others.now so_far.0 c.loop-segment.segment-index so_far.1 c.loop-segment-test.false in
    record {
      writes = λ plain _. has_written_of_eq _ _ _ _ _ all (so_far.2 plain);
      styled = λ flush _. has_written_styled_of_eq _ _ _ _ _ all (so_far.3 flush);
    }
