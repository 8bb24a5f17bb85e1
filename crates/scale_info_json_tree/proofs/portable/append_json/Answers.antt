use Rattle.scale_info_json_tree.specs.JsonTables.{table_tree}
use Rattle.scale_info_json_trees.proofs.Texts.{whole_text}
use Rattle.scale_info_json_tree.proofs.portable.append_json.Goals as goal

pub returns-clause-text : goal.returns-clause-text
returns-clause-text c =
    whole_text _ _ _ _ _ _ (table_tree c.args.table.now)
    c.into_inner.ensures.items c.in_ok-write_json.ensures.before c.new-writer.ensures.before c.in_ok-write_json.ensures.ok c.new-writer.ensures.tokens
