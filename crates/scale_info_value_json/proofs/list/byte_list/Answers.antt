use Rattle.std.proofs.Common.{◌≡◌, ◌<◌, ◌≤◌, Some, true, false, length, sym, ap, ◌∙◌, arith}
use Rattle.std.proofs.lemmas.Grind.{common_steps}
use Rattle.scale_info_value_json.specs.Takers.{IsErrorOf, taken, if_found}
use Rattle.scale_info_value_json.specs.Takings.{is_count_of, AtBytes}
use Rattle.scale_info_hexadecimal.specs.Digits.{bytes_by_digits}
use Rattle.scale_info_value_json.proofs.SoFar.{passed_on, passes}
use Rattle.scale_info_value_json.proofs.OneLevel.{no_bytes, bytes_miscounted, bytes_too_deep, bytes_taken, no_bytes_taken}
use Rattle.scale_info_value_json.proofs.list.byte_list.Goals as goal
use Rattle.scale_info_value_json.proofs.list.byte_list.Goals.{else-left-eq1-via-then-left-eq1+else-not-is_empty, else-left-eq1-via-else-left-eq1}

pub returns-in_err-bytes-clause-err : goal.returns-in_err-bytes-clause-err
returns-in_err-bytes-clause-err c =
    let e = c.in_err-bytes.field-0.0 in
    passed_on c.from_residual.result e (λ d. AtBytes c.args.left c.args.count c.args.text.now (λ outcome. IsErrorOf outcome d))
    c.from_residual.ensures.1
    (λ table ty of_bytes. passes (if_found (bytes_by_digits c.args.text.now) taken) _ e
    (λ why r. no_bytes c.args.left table ty c.args.count c.args.text.now of_bytes why r) c.in_err-bytes.ensures.err)

pub returns-then-not-is_count_of-clause-err : goal.returns-then-not-is_count_of-clause-err
returns-then-not-is_count_of-clause-err c =
    let bytes = c.as_slice-all.result.now in
    let misfits : is_count_of c.args.count (length bytes) ≡ false =
    sym c.is_count_of.ensures ∙ c.if-not-is_count_of.true in
    λ table ty of_bytes. bytes_miscounted c.args.left table ty c.args.count c.args.text.now of_bytes bytes
    (c.in_ok-bytes.ensures.ok ∙ ap Some (sym c.as_slice-all.ensures.value)) misfits

pub returns-then-not-is_empty-clause-err : goal.returns-then-not-is_empty-clause-err
returns-then-not-is_empty-clause-err c =
    let bytes = c.as_slice-all.result.now in
    let fits : is_count_of c.args.count (length bytes) ≡ true =
    sym c.is_count_of.ensures ∙ c.if-not-is_count_of.false in
    let some : 0 < length bytes = grind (arith, common_steps) in
    λ table ty of_bytes. bytes_too_deep c.args.left table ty c.args.count c.args.text.now of_bytes bytes
    (c.in_ok-bytes.ensures.ok ∙ ap Some (sym c.as_slice-all.ensures.value)) fits c.if-left-eq1.true some

pub returns-clause-ok : goal.returns-clause-ok
returns-clause-ok c =
    let bytes = c.as_slice-all.result.now in
    let written = c.in_ok-bytes.ensures.ok ∙ ap Some (sym c.as_slice-all.ensures.value) in
    let fits : is_count_of c.args.count (length bytes) ≡ true =
    sym c.is_count_of.ensures ∙ c.if-not-is_count_of.false in
    elim c.else-left-eq1.branch [
      | else-left-eq1-via-then-left-eq1+else-not-is_empty w ↦
          let none : length bytes ≡ 0 = grind (arith, common_steps, w.is_empty.ensures, w.if-not-is_empty.false) in
          λ table ty of_bytes. no_bytes_taken c.args.left table ty c.args.count c.args.text.now of_bytes bytes
          c.in_ok-integers.field-0 written fits none c.in_ok-integers.ensures
      | else-left-eq1-via-else-left-eq1 w ↦
          let more : 2 ≤ c.args.left = omega (arith, w.if-left-eq1.false, c.requires) in
          λ table ty of_bytes. bytes_taken c.args.left table ty c.args.count c.args.text.now of_bytes bytes
          c.in_ok-integers.field-0 written fits more c.in_ok-integers.ensures
    ]
