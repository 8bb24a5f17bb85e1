use Rattle.std.proofs.Common.{◌≡◌, None, Some, ap, option_map, sym, ◌∙◌, arith}
use Rattle.std.specs.Option.{option_copied}
use Rattle.scale_info_value.specs.Readings.{type_at}
use Rattle.scale_info_value.proofs.Levels.{levels_end, levels_missing, levels_known, both_at}
use Rattle.scale_info_value_json.specs.Takings.{value_within, compact_within}
use Rattle.scale_info_value_json.proofs.AsLevels.{takings}
use Rattle.scale_info_value_json.proofs.definition.definition_of.Goals as goal

pub returns-then-left-eq0-clause-unknown : goal.returns-then-left-eq0-clause-unknown
unfolding takings value_within compact_within
returns-then-left-eq0-clause-unknown g c =
    both_at (levels_end takings c.args.left (g.T.Definitions.table c.args.table.now) c.args.id (omega arith))

pub returns-in-None-clause-unknown : goal.returns-in-None-clause-unknown
unfolding takings value_within compact_within
returns-in-None-clause-unknown g c =
    let none : option_map (λ d. d.type_def) (type_at (g.T.Definitions.table c.args.table.now) c.args.id) ≡ None =
    sym c.definition.ensures ∙ ap option_copied c.in-None.is in
    both_at (levels_missing takings c.args.left (g.T.Definitions.table c.args.table.now) c.args.id (omega arith) none)

pub returns-in-Some-clause-known : goal.returns-in-Some-clause-known
unfolding takings value_within compact_within
returns-in-Some-clause-known g c =
    let some : option_map (λ d. d.type_def) (type_at (g.T.Definitions.table c.args.table.now) c.args.id)
    ≡ Some c.in-Some.definition.now =
    sym c.definition.ensures ∙ ap option_copied c.in-Some.is in
    both_at
    (levels_known takings c.args.left (g.T.Definitions.table c.args.table.now) c.args.id c.in-Some.definition.now (omega arith) some)
