use Rattle.serde_json.specs.View.{view}
use Rattle.scale_info_calls.proofs.Values.{gives_no_value}
use Rattle.scale_info_calls.proofs.encode.encoded.Goals as goal

pub returns-clause-err : goal.returns-clause-err
returns-clause-err c =
    gives_no_value c.args.input.now c.args.id c.args.json.now c.in_ok-registry.registry.types
    (view c.in_ok-tree.tree) c.error_of.result c.in_ok-registry.ensures.ok c.in_ok-tree.ensures.ok
    (c.error_of.ensures _ c.in-Err.ensures.err)
