use Rattle.std.proofs.Common.{sym, ◌∙◌}
use Rattle.std.proofs.lemmas.Result.{IfOk-weaker}
use Rattle.scale_info.specs.LoadedLaws.{chosen_reached}
use Rattle.example_callers.proofs.signing.call_with_amount_by_view.Goals as goal

pub returns : goal.returns
returns c chosen =
    let alike = c.in_ok-types.ensures.alike c.args.id (chosen_reached c.args.view.now c.args.ids.now c.args.id chosen) in
    IfOk-weaker c.call_with_amount.result _ _
    (λ bytes with_amount. record {
      old = with_amount.old;
      new = with_amount.new;
      changed = with_amount.changed;
      was_read = sym (alike.reads 1 c.args.input.now) ∙ with_amount.was_read;
      is_read = sym (alike.reads 1 bytes.items) ∙ with_amount.is_read;
    })
    c.call_with_amount.ensures
