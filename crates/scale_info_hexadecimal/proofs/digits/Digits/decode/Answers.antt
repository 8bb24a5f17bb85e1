use Rattle.std.proofs.Common.{◌∙◌, Some, ap, arith, refl, subst, sym}
use Rattle.std.specs.Result.{result_ok}
use Rattle.hex.proofs.HexLemmas.{decode_of-even}
use Rattle.hex.specs.Hex.{decode_of}
use Rattle.scale_info_hexadecimal.proofs.DigitValues.{writes_none, written_back}
use Rattle.scale_info_hexadecimal.specs.Digits.{AreValues}
use Rattle.scale_info_hexadecimal.proofs.digits.Digits.decode.Goals as goal

pub returns-then-not-put_values : goal.returns-then-not-put_values
returns-then-not-put_values c =
    ap (λ d. result_ok (decode_of d)) (sym c.without_mark-digits.ensures)
    ∙ writes_none c.without_mark-digits.result.now (c.if-not-put_values.ensures.none refl)

pub returns : goal.returns
returns c =
    let digits = c.without_mark-digits.result.now in
    let values =
    c.as_slice.ensures.value
    ∙ written_back c.resize.new.self.len c.put_values.new.values c.resize.new.self.items
    (c.put_values.ensures.length ∙ c.as_mut_slice.ensures.len) in
    let are =
    subst (AreValues digits) (sym values) (c.if-not-put_values.ensures.all refl) in
    ap (λ d. result_ok (decode_of d)) (sym c.without_mark-digits.ensures)
    ∙ ap result_ok
    (decode_of-even digits (omega (arith, c.if-digits-eq1.false)) ∙ c.put_bytes.ensures.pairs digits are)
    ∙ ap Some
    (sym
    (written_back c.resize-2.new.self.len c.put_bytes.new.bytes c.resize-2.new.self.items
    (c.put_bytes.ensures.length ∙ c.as_mut_slice-2.ensures.len)))
