use Rattle.std.proofs.Common.{ap}
use Rattle.scale_info_types.proofs.ty.fields.Field.new.Goals as goal

pub returns : goal.returns
returns g c = ap (λ d. record { name = c.args.name; ty = c.args.ty; type_name = c.args.type_name; docs = d }) c.from.ensures
