use Rattle.std.proofs.Common.{rules, of_calls}
use Rattle.scale_info_build.proofs.fields.FieldsBuilder+F+UnnamedFields.field.Goals as goal

pub returns : goal.returns
returns g c = (c.new.result, c.new.ensures, c.in_ok-build.field-0, search (rules, of_calls), search rules)
