use Rattle.std.proofs.Common.{◌≡◌, take, refl, sym, ◌∙◌, arith}
use Rattle.std.proofs.lemmas.Grind.{common_steps}
use Rattle.std.proofs.Output.{has_written_append, has_written_of_eq}
use Rattle.scale_info_value_encode.proofs.Paths.{text_more, text_first, text_all}
use Rattle.scale_info_value_encode.proofs.path.ValuePathDisplay.fmt.Goals as goal

pub loop-step-init : goal.loop-step-init
loop-step-init g c = (
  c.in-Some.first.now,
  sym c.as_slice.ensures ∙ c.in-Some.ensures.cases.0,
  λ plain. has_written_of_eq _ _ _ _ _ (text_first c.in-Some.first.now c.in-Some.others.now)
      (c.in_ok-fmt-in-Some.ensures.writes plain refl),
)

pub loop-step-preserved : goal.loop-step-preserved
loop-step-preserved g c =
    let so_far = c.loop-step.invariant in
    let more =
    text_more so_far.0 c.in-Some.others.now c.loop-step.step-index c.step-item.result c.loop-step-test.true c.step-item.is in (
      so_far.0,
      so_far.1,
      λ plain.
          let before = so_far.2 plain in
          let between = c.in_ok-write_str-in-Some.ensures.writes before.plain refl in
          let after = c.in_ok-fmt-in-Some-2.ensures.writes between.plain refl in
          has_written_of_eq _ _ _ _ _ more
          (has_written_append _ _ _ _ _ _ before (has_written_append _ _ _ _ _ _ between after)),
    )

pub returns-after-loop-step : goal.returns-after-loop-step
returns-after-loop-step g c =
    let so_far = c.loop-step.invariant in
    let whole : take c.loop-step.step-index c.in-Some.others.now ≡ c.in-Some.others.now = grind (arith, common_steps) in
    let all =
    text_all c.args.self.now.steps c.in-Some.others.now so_far.0 c.loop-step.step-index so_far.1 whole in
    record {
      writes = λ plain _. has_written_of_eq _ _ _ _ _ all (so_far.2 plain);
      styled = tt;
    }
