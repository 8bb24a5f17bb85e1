use Rattle.std.proofs.Common.{◌≡◌, ◌^◌, ◌<◌, ◌&&◌, Bool, true, length, ap, ◌∙◌, arith, sym}
use Rattle.std.proofs.lemmas.Bool.{lt-ltb, and_from}
use Rattle.std.proofs.lemmas.Str.{is_utf8-from_IsUtf8}
use Rattle.std.specs.Prelude.{if◌then◌else◌, nat_lt}
use Rattle.std.specs.Str.{is_utf8}
use Rattle.scale_info_value.specs.declared.value.Value.TheVariants as Values
use Rattle.scale_info_value_json.specs.Takers.{taken, refused, mismatch}
use Rattle.scale_info_value_json.proofs.primitive.text_of.Goals as goal

pub returns-clause-ok : goal.returns-clause-ok
returns-clause-ok c =
    let t = c.args.text.now in
    let short : length t < 2 ^ 32 = omega arith in
    let fits : (nat_lt (length t) (2 ^ 32) && is_utf8 t) ≡ true =
    and_from _ _ (lt-ltb (length t) (2 ^ 32) short) (is_utf8-from_IsUtf8 t c.utf8.text) in
    ap (λ (b : Bool). if b then taken (Values.Text t) else refused mismatch) fits
    ∙ ap (λ s. taken (Values.Text s)) (sym (c.from.ensures ∙ c.in_ok-from_str.ensures.ok))
