use Rattle.std.proofs.Common.{◌≡◌, ◌==◌, ◌-◌, ℕ, List, drop, take, get_or, true, false, sym, ap, ◌∙◌, arith, length, take_all, length-drop, Some, None, option_map, subst}
use Rattle.std.specs.Prelude.{IfErr, IfOk}
use Rattle.fast_float.specs.Text.{Parts, scan}
use Rattle.serde_json.specs.Find.{as_u64}
use Rattle.serde_json.specs.Read.{number_of, number_from}
use Rattle.scale_info_json_text.specs.Readings.{IfSyntax}
use Rattle.scale_info_json_text.proofs.Stops.{passed_syntax}
use Rattle.scale_info_json_text.proofs.number.unsigned.Goals as goal

-- the number of a text that begins with a minus sign
after_minus :
    (s text : List ℕ) (p : Parts) → s ≡ text → true ≡ (get_or s 0 0 == 45)
    → p ≡ scan (take (length s - 1) (drop 1 s)) → number_from true p ≡ number_of text
unfolding number_of
after_minus s text p is signed parts =
    let rest = take_all (length s - 1) (drop 1 s) (omega (arith, length-drop 1 s)) in
    let read : number_from true (scan (drop 1 s)) ≡ number_of s = rw (sym signed) in
    ap (number_from true) (parts ∙ ap scan rest) ∙ read ∙ ap number_of is

-- the number of another text
without_minus :
    (s text : List ℕ) (p : Parts) → s ≡ text → false ≡ (get_or s 0 0 == 45) → p ≡ scan s
    → number_from false p ≡ number_of text
unfolding number_of
without_minus s text p is unsigned parts =
    let read : number_from false (scan s) ≡ number_of s = rw (sym unsigned) in
    ap (number_from false) parts ∙ read ∙ ap number_of is

pub returns-in_err-negative-clause-syntax : goal.returns-in_err-negative-clause-syntax
returns-in_err-negative-clause-syntax c =
    passed_syntax c.from_residual.result c.in_err-negative.field-0.0 c.from_residual.ensures.1
    (λ e. sym (after_minus _ _ _ c.as_bytes-bytes.ensures.value c.if-has_minus.ensures.value c.scan.ensures.parts) ∙ e) c.in_err-negative.ensures.syntax

pub returns-then-has_minus-clause-ok : goal.returns-then-has_minus-clause-ok
returns-then-has_minus-clause-ok c =
    ap (option_map as_u64) (sym (after_minus _ _ _ c.as_bytes-bytes.ensures.value c.if-has_minus.ensures.value c.scan.ensures.parts)) ∙ c.in_ok-negative.ensures.ok

pub returns-clause-ok : goal.returns-clause-ok
returns-clause-ok c =
    subst (λ o. IfOk c.positive.result (λ n. option_map as_u64 o ≡ Some n))
    (without_minus _ _ _ c.as_bytes-bytes.ensures.value c.if-has_minus.ensures.value c.scan-2.ensures.parts) c.positive.ensures.ok

pub returns-clause-syntax : goal.returns-clause-syntax
returns-clause-syntax c =
    subst (λ o. IfErr c.positive.result (IfSyntax (o ≡ None)))
    (without_minus _ _ _ c.as_bytes-bytes.ensures.value c.if-has_minus.ensures.value c.scan-2.ensures.parts) c.positive.ensures.syntax
