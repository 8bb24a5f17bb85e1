use Rattle.std.proofs.Common.{◌≡◌, ◌++◌, List, ℕ, length, ap, sym, ◌∙◌, arith}
use Rattle.std.proofs.lemmas.List.{append-nil, nil_from_length}
use Rattle.std.proofs.lemmas.Grind.{common_steps}
use Rattle.scale_info.specs.BorrowedBytes.{are_bytes}
use Rattle.scale_info.specs.Writers.{written}
use Rattle.example_callers.proofs.copied.append_value.Goals as goal

pub returns : goal.returns
returns c =
    let none : length c.in_ok-value.rest.now ≡ 0 = grind (arith, common_steps, c.is_empty.ensures, c.if-not-is_empty.false) in
    let none_left = nil_from_length c.in_ok-value.rest.now none in
    let read =
    c.written_as_read.ensures c.args.table.now c.args.id 1 c.args.input.now c.in_ok-value.value c.in_ok-value.rest.now
    (are_bytes c.args.input.now c.type_inv.input) c.in_ok-value.ensures.ok in
    let appended = c.in_ok-encode_value.ensures.ok in
    let both : written read.encoding ≡ written appended.encoding = sym read.encodes ∙ appended.encodes in
    let same : read.encoding ≡ appended.encoding = cc in
    let whole : c.args.input.now ≡ read.encoding =
    read.parts ∙ ap (λ r. read.encoding ++ r) none_left ∙ append-nil read.encoding in
    appended.parts ∙ ap (λ e. c.args.out.now.items ++ e) (sym (whole ∙ same))
