use Rattle.std.proofs.Common.{sym, ap, ◌∙◌}
use Rattle.std.specs.Prelude.{option_and_then}
use Rattle.scale_info_value_json.specs.Takings.{seen}
use Rattle.scale_info_value_json.specs.TreeParts.{index_and_fields}
use Rattle.scale_info_value_json.proofs.ShownVariants.{none_meant, shared_meant, alone_meant}
use Rattle.scale_info_value_json.proofs.variant.chosen.Goals as goal

pub returns-in-None : goal.returns-in-None
returns-in-None c = sym (none_meant c.args.name.now c.args.choice.now (seen c.args.content) (sym c.in-None.ensures))

pub returns-in-Some-content : goal.returns-in-Some-content
returns-in-Some-content c =
    c.index_and_fields.ensures
    ∙ sym (shared_meant c.args.name.now c.in-Some.variant.now c.args.choice.now (seen c.args.content) (sym c.in-Some.ensures)
    (sym c.shares_name.ensures ∙ c.if-shares_name.true)
    ∙ ap (λ o. option_and_then index_and_fields (seen o)) c.in-Some-content.is)

pub returns-in-None-content : goal.returns-in-None-content
returns-in-None-content c =
    sym (shared_meant c.args.name.now c.in-Some.variant.now c.args.choice.now (seen c.args.content) (sym c.in-Some.ensures)
    (sym c.shares_name.ensures ∙ c.if-shares_name.true)
    ∙ ap (λ o. option_and_then index_and_fields (seen o)) c.in-None-content.is)

pub returns-in-Some-2 : goal.returns-in-Some-2
returns-in-Some-2 c =
    sym (alone_meant c.args.name.now c.in-Some.variant.now c.args.choice.now (seen c.args.content) (sym c.in-Some.ensures)
    (sym c.shares_name.ensures ∙ c.if-shares_name.false))
