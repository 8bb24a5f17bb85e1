use Rattle.std.proofs.Common.{rules, arith}
use Rattle.std.proofs.lemmas.Grind.{common_steps}
use Rattle.scale_info_identities.specs.TypeIdLaws.{term_of_out}
use Rattle.scale_info_types.proofs.meta_type.MetaType.is_phantom.Goals as goal
use Rattle.scale_info_types.proofs.meta_type.MetaType.is_phantom.Goals.{then-eq, else-eq}

pub returns-then-is_empty : goal.returns-then-is_empty
returns-then-is_empty c =
    let out = term_of_out c.args.self.now.identity in
    elim c.if-eq.branch [
      | then-eq w ↦ grind (arith, common_steps, rules, out)
      | else-eq w ↦ grind (arith, common_steps, rules, out)
    ]
