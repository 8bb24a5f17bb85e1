use Rattle.std.proofs.Common.{arith}
use Rattle.std.proofs.lemmas.Grind.{common_steps}
use Rattle.scale_info_value_text.proofs.value_text.value_json.Goals as goal

-- bytes are left
pub returns-in-Ok-clause-err : goal.returns-in-Ok-clause-err
returns-in-Ok-clause-err g c = record {
  value = c.in-Ok.ensures.ok.value;
  rest = c.in-Ok.rest.now;
  read = c.in-Ok.ensures.ok.read;
  left = grind (arith, common_steps);
}
