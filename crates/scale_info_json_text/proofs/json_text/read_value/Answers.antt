use Rattle.std.proofs.Common.{◌≡◌, [], sym, subst, arith}
use Rattle.scale_info_json_text.specs.Readings.{HasNoTree}
use Rattle.scale_info_json_text.proofs.Stops.{syntax_anyway}
use Rattle.scale_info_json_text.proofs.Trees.{none_in_nothing}
use Rattle.scale_info_json_text.proofs.json_text.read_value.Goals as goal

pub returns-in_err-token-clause-syntax : goal.returns-in_err-token-clause-syntax
returns-in_err-token-clause-syntax g c =
    let empty : c.args.source.now.reader ≡ [] = grind arith in
    syntax_anyway c.from_residual.result (subst (λ ts. HasNoTree c.args.depth ts) (sym empty) (none_in_nothing c.args.depth))
