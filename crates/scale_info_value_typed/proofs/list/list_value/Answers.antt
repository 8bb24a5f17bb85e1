use Rattle.std.proofs.Common.{◌<◌, ap, sym, ◌∙◌, length, arith}
use Rattle.scale_info_value_typed.specs.StandingValues.{list_at}
use Rattle.scale_info_value_typed.proofs.Errors.{passed}
use Rattle.scale_info_value_typed.proofs.ListValues.{next_stands, none_stands, next_meant, all_stand, all_meant}
use Rattle.scale_info_value_typed.proofs.list.list_value.Goals as goal

pub returns-in_err-to_value-clause-err : goal.returns-in_err-to_value-clause-err
returns-in_err-to_value-clause-err g c =
    let value_at = g.T.EncodeAs.value_at in
    let table = g.D.Definitions.table c.args.table.now in
    let item = c.index-all-index.result in
    passed c.from_residual-in_err-to_value.result c.in_err-to_value.field-0.0 c.from_residual-in_err-to_value.ensures.1
    (value_at table c.part.result item) (list_at value_at table c.args.place c.args.all.now)
    (λ none.
    none_stands value_at table c.args.place c.loop-index.index c.args.all.now item c.loop-index.values (omega arith)
    c.index-all-index.is c.loop-index.invariant.0 (ap (λ p. value_at table p item) (sym c.part.ensures) ∙ none))
    c.in_err-to_value.ensures.err

pub loop-index-preserved : goal.loop-index-preserved
loop-index-preserved g c =
    let value_at = g.T.EncodeAs.value_at in
    let table = g.D.Definitions.table c.args.table.now in
    let item = c.index-all-index.result in
    let index = c.loop-index.index in
    let all = c.args.all.now in
    let less : index < length all = omega arith in
    let value = c.in_ok-to_value.field-0 in
    let new = c.push.new.self in (
      next_stands value_at table c.args.place index all item c.loop-index.values new value c.in_ok-push.ensures.list
          less c.index-all-index.is (ap (λ p. value_at table p item) (sym c.part.ensures) ∙ c.in_ok-to_value.ensures.ok)
          c.loop-index.invariant.0,
      next_meant g.T.Shown.meant g.T.Shown.seen all index item c.loop-index.values new value
          c.in_ok-push.ensures.list less c.index-all-index.is c.in_ok-to_value.ensures.shown c.loop-index.invariant.1,
    )

pub returns-clause-ok : goal.returns-clause-ok
returns-clause-ok g c =
    all_stand g.T.EncodeAs.value_at (g.D.Definitions.table c.args.table.now) c.args.place c.loop-index.index c.args.all.now c.loop-index.values
    (omega arith) c.loop-index.invariant.0

pub returns-clause-shown : goal.returns-clause-shown
returns-clause-shown g c =
    all_meant g.T.Shown.meant g.T.Shown.seen c.args.all.now c.loop-index.index c.loop-index.values (omega arith)
    c.loop-index.invariant.1
