use Rattle.std.proofs.Common.{ap}
use Rattle.scale_info_json_trees.specs.DefinitionTrees.{MeansPrimitive}
use Rattle.scale_info_json_text.proofs.Leaves.{string_kind, kind_of, not_kind, primitive_read}
use Rattle.scale_info_json_text.proofs.primitive.TypeDefPrimitiveJsonText.from_token.Goals as goal

pub returns-in-String-clause-ok : goal.returns-in-String-clause-ok
returns-in-String-clause-ok c =
    primitive_read c.args.depth c.args.token c.args.source.now.reader c.args.source.now.reader c.in-String.name c.primitive_named.result c.in-String.is c.primitive_named.ensures.some c.primitive_named.ensures.none

pub returns-clause-ok : goal.returns-clause-ok
returns-clause-ok c =
    not_kind c.args.depth c.args.token c.args.source.now.reader c.pass_rest.new.reader MeansPrimitive string_kind
    (λ tree v m. ap kind_of m.is) (λ b. c.in_default.not-String b.0 b.1) c.in_ok-pass_rest.ensures.ok
