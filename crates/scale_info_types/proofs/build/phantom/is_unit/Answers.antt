use Rattle.std.proofs.Common.{rules, arith}
use Rattle.std.proofs.lemmas.Grind.{common_steps}
use Rattle.scale_info_identities.specs.TypeIdLaws.{term_of_out}
use Rattle.scale_info_identities.specs.declared.type_id.TypeId.TheViews.{out-TypeId}
use Rattle.scale_info_types.proofs.Phantoms.{no_arguments}
use Rattle.scale_info_types.proofs.build.phantom.is_unit.Goals as goal
use Rattle.scale_info_types.proofs.build.phantom.is_unit.Goals.{then-eq, else-eq}

pub returns-then-is_empty : goal.returns-then-is_empty
returns-then-is_empty c =
    let out = term_of_out c.args.id.now in
    let none = no_arguments (out-TypeId c.args.id.now).args in
    elim c.if-eq.branch [
      | then-eq w ↦ grind (arith, common_steps, rules, out, none)
      | else-eq w ↦ grind (arith, common_steps, rules, out, none)
    ]
