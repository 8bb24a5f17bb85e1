use Rattle.std.proofs.Common.{sym, subst}
use Rattle.scale_info_value.specs.Outcomes.{IsErrorOf}
use Rattle.scale_info_value.specs.Readings.{reading}
use Rattle.scale_info_value_text.proofs.Errors.{same_error}
use Rattle.scale_info_value_text.proofs.value_text.append_value_json.Goals as goal

-- src/value_text.rt:25:1
pub returns-in-Err-clause-err : goal.returns-in-Err-clause-err
returns-in-Err-clause-err g c =
    let P : _ → Type 0 = λ e. IsErrorOf (reading (g.T.Definitions.table c.args.table.now) c.args.id 1 c.args.input.now) e in
    subst P (sym c.value_error.ensures)
    (same_error _ _ _ (reading (g.T.Definitions.table c.args.table.now) c.args.id 1 c.args.input.now) _ _ c.in-Err.error c.in-Err.ensures.err)
