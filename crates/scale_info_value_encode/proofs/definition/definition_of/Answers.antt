use Rattle.std.proofs.Common.{◌≡◌, None, Some, ap, option_map, sym, ◌∙◌, arith}
use Rattle.std.specs.Option.{option_copied}
use Rattle.scale_info_value.specs.Readings.{type_at}
use Rattle.scale_info_value.proofs.Levels.{levels_end, levels_missing, levels_known, both_at}
use Rattle.scale_info_value_encode.specs.Writings.{value_within, compact_within}
use Rattle.scale_info_value_encode.proofs.AsLevels.{writings}
use Rattle.scale_info_value_encode.proofs.definition.definition_of.Goals as goal

pub returns-then-left-eq0-clause-unknown : goal.returns-then-left-eq0-clause-unknown
unfolding writings value_within compact_within
returns-then-left-eq0-clause-unknown g c =
    λ value steps. both_at (levels_end writings c.args.left (g.T.Definitions.table c.args.table.now) c.args.id (omega arith)) value

pub returns-in-None-clause-unknown : goal.returns-in-None-clause-unknown
unfolding writings value_within compact_within
returns-in-None-clause-unknown g c =
    let none : option_map (λ d. d.type_def) (type_at (g.T.Definitions.table c.args.table.now) c.args.id) ≡ None =
    sym c.definition.ensures ∙ ap option_copied c.in-None.is in
    λ value steps.
    both_at (levels_missing writings c.args.left (g.T.Definitions.table c.args.table.now) c.args.id (omega arith) none) value

pub returns-in-Some-clause-known : goal.returns-in-Some-clause-known
unfolding writings value_within compact_within
returns-in-Some-clause-known g c =
    let some : option_map (λ d. d.type_def) (type_at (g.T.Definitions.table c.args.table.now) c.args.id)
    ≡ Some c.in-Some.definition.now =
    sym c.definition.ensures ∙ ap option_copied c.in-Some.is in
    λ value.
    both_at
    (levels_known writings c.args.left (g.T.Definitions.table c.args.table.now) c.args.id c.in-Some.definition.now (omega arith) some)
    value
