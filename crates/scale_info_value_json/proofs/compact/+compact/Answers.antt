use Rattle.std.proofs.Common.{◌∙◌, subst, sym}
use Rattle.std.proofs.lemmas.Result.{IfOk-weaker, IfErr-weaker}
use Rattle.serde_json.specs.Data.{Data}
use Rattle.scale_info_value_json.specs.Takers.{IsErrorOf}
use Rattle.scale_info_value_json.specs.Takings.{compact_within}
use Rattle.scale_info_value_json.proofs.OneLevel.{compact_of_field}
use Rattle.scale_info_value_json.proofs.SoFar.{passed_on}
use Rattle.scale_info_value_json.proofs.compact.+compact.Goals as goal

pub returns-in_err-definition-clause-err : goal.returns-in_err-definition-clause-err
returns-in_err-definition-clause-err g t c =
    passed_on c.from_residual.result c.in_err-definition.field-0.0
    (λ why. (tree : Data) → IsErrorOf (compact_within c.args.left (g.T.Definitions.table c.args.table.now) c.args.id tree) why)
    c.from_residual.ensures.1 (λ tree. (c.in_err-definition.ensures.unknown tree).1)

pub returns-in-len1 : goal.returns-in-len1
returns-in-len1 g t c =
    let inner =
    compact_of_field c.args.left (g.T.Definitions.table c.args.table.now) c.in_ok-definition.definition.now c.in-Composite.composite
    c.as_slice.result.now
    c.field-item.result c.in-Composite.is c.as_slice.ensures c.in-len1.len_at_least c.in-len1.len_below c.field-item.is in
    let result = c.compact_kind.result in
    record {
      ok = IfOk-weaker result _ _ (λ kind h tree. (c.in_ok-definition.ensures.known tree).1 ∙ inner tree ∙ h tree)
          c.compact_kind.ensures.ok;
      err =
          IfErr-weaker result _ _
          (λ why h tree. subst (λ w. IsErrorOf w why) (sym ((c.in_ok-definition.ensures.known tree).1 ∙ inner tree)) (h tree))
          c.compact_kind.ensures.err;
      not_memory = c.compact_kind.ensures.not_memory;
    }
