use Rattle.std.proofs.Common.{◌^◌, sym, ◌∙◌}
use Rattle.scale_info_value_json.proofs.Numbers.{unsigned_parsed, none_below}
use Rattle.scale_info_value_json.proofs.number.decimal.Goals as goal

pub returns : goal.returns
returns c =
    unsigned_parsed c.args.text.now _ _ c.ok.ensures.value (sym c.has_plus.ensures ∙ c.if-has_plus.false) c.parse.ensures.value.0

pub returns-then-has_plus : goal.returns-then-has_plus
returns-then-has_plus c = none_below (2 ^ 128) c.args.text.now (sym c.has_plus.ensures ∙ c.if-has_plus.true)
