use Rattle.std.proofs.Common.{◌∙◌}
use Rattle.scale_info_bytes.proofs.Errors.{passed_malformed}
use Rattle.scale_info_json_trees.proofs.Texts.{whole_text}
use Rattle.scale_info_json_trees.specs.EntryTrees.{types_tree}
use Rattle.scale_info_json_bytes.proofs.Tables.{types_tokens}
use Rattle.scale_info_json_bytes.proofs.portable.append_json_of.Goals as goal

pub returns-in_err-rest-clause-malformed : goal.returns-in_err-rest-clause-malformed
returns-in_err-rest-clause-malformed c =
    passed_malformed c.from_residual-in_err-rest.result c.in_err-rest.field-0.0
    c.from_residual-in_err-rest.ensures.1
    (λ n. record {
      none = λ types rest p.
          n.none types rest
          (record { encoding = p.encoding; encodes = p.encodes; parts = p.parts });
    })
    c.in_err-rest.ensures.malformed

pub returns-clause-ok : goal.returns-clause-ok
returns-clause-ok c =
    let list = c.in_ok-rest.ensures.ok in
    let before =
    c.in_ok-end_object.ensures.room.0 ∙ c.in_ok-rest.ensures.before ∙ c.in_ok-key.ensures.room.0
    ∙ c.in_ok-begin_object.ensures.room.0 in
    let tokens =
    types_tokens list.values _ _ _ _ _ c.in_ok-begin_object.ensures.ok c.in_ok-key.ensures.ok
    list.tokens c.in_ok-end_object.ensures.ok in
    record {
      types = list.values;
      read = record {
        encoding = list.read.encoding;
        encodes = list.read.encodes;
        parts = list.read.parts;
      };
      text =
          whole_text _ _ _ _ _ _ (types_tree list.values) c.into_inner.ensures.items before
          c.new-writer.ensures.before tokens c.new-writer.ensures.tokens;
    }
