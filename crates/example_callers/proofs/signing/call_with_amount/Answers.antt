use Rattle.std.proofs.Common.{◌≡◌, [], ◌++◌, length, arith, ap, sym, ◌∙◌}
use Rattle.std.proofs.lemmas.List.{append-nil, nil_from_length}
use Rattle.std.proofs.lemmas.Grind.{common_steps}
use Rattle.scale_info.specs.Outcomes.{decoded}
use Rattle.scale_info.specs.Readings.{reading}
use Rattle.example_callers.proofs.signing.call_with_amount.Goals as goal

pub returns : goal.returns
returns g c =
    let call = c.in_ok-call.call in
    let new = c.in_ok-call-2.call in
    let appended = c.in_ok-encode_value.ensures.ok in
    let none : length c.in_ok-call.rest.now ≡ 0 =
    grind (arith, common_steps, c.is_empty.ensures, c.if-not-is_empty.false) in
    let none_left = nil_from_length c.in_ok-call.rest.now none in
    let whole : c.encode_value.new.out.items ≡ appended.encoding ++ [] =
    appended.parts ∙ ap (λ old. old ++ appended.encoding) c.new-bytes.ensures.items
    ∙ sym (append-nil appended.encoding) in
    record {
      old = call;
      new = new;
      changed = c.in_ok-call-2.ensures;
      was_read = c.in_ok-call.ensures.ok ∙ ap (decoded call) none_left;
      is_read =
          ap (reading (g.T.Definitions.table c.args.table.now) c.args.id 1) whole
          ∙ c.read_back.ensures (g.T.Definitions.table c.args.table.now) c.args.id 1 new appended.encoding appended.encodes [];
    }
